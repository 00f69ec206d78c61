-- What is judged of a datagram, and the lines that say it.
use Rattle.std.specs.Prelude.{ℕ, suc, ◌-◌, Bool, true, false, List, [], ◌∷◌, ◌++◌, length, count_by, codes}
use Rattle.std.specs.Fmt.{decimal}
use Rattle.vrt_fields.specs.NumberText.{hexadecimal}
use Rattle.difi_packet.specs.declared.kind.PacketKind.{PacketKind}
use Rattle.difi_packet.specs.declared.kind.PacketKind.TheVariants.{Data, Context, Version, Control, Cancel, AckV, AckX, AckS}
use Rattle.difi_texts.specs.declared.lines.Judgement.{Judgement}
use Rattle.difi_texts.specs.declared.lines.Judgement.TheVariants.{Accepted, Refused, TooLarge}

-- what a line says of an accepted packet in front of its stream
abbrev pub acceptance : PacketKind → List ℕ
acceptance Data = codes " ok data stream "
acceptance Context = codes " ok context stream "
acceptance Version = codes " ok version stream "
acceptance Control = codes " ok control stream "
acceptance Cancel = codes " ok cancel stream "
acceptance AckV = codes " ok ackv stream "
acceptance AckX = codes " ok ackx stream "
acceptance AckS = codes " ok acks stream "

-- what a line says of a datagram
abbrev pub outcome : Judgement → List ℕ
outcome (Accepted kind stream) = acceptance kind ++ hexadecimal stream
outcome (Refused word) = codes " refused at word " ++ decimal word
outcome TooLarge = codes " too large"

-- the line of the frame with this number
abbrev pub line : ℕ → Judgement → List ℕ
line number judgement = codes "frame " ++ decimal number ++ outcome judgement ++ codes "\n"

-- what is told of a frame: what is judged of its datagram, and the text under its line
pub record Account : Type 0 where
  pub judgement : Judgement
  pub under : List ℕ

-- the line of the frame with this number, and the text under it
abbrev pub entry : ℕ → Account → List ℕ
entry number account = line number account.judgement ++ account.under

-- the entries of frames, which are numbered from here on
abbrev pub entries : ℕ → List Account → List ℕ
entries number [] = []
entries number (account ∷ accounts) = entry number account ++ entries (suc number) accounts

abbrev pub is_packet : Judgement → Bool
is_packet (Accepted kind stream) = true
is_packet (Refused word) = false
is_packet TooLarge = false

abbrev pub is_accepted : Account → Bool
is_accepted account = is_packet account.judgement

-- the line behind those of the frames, where so many were judged and so many of them accepted
abbrev pub counts : ℕ → ℕ → List ℕ
counts frames accepted =
    codes "frames " ++ decimal frames ++ codes " ok " ++ decimal accepted ++ codes " refused " ++ decimal (frames - accepted) ++ codes "\n"

abbrev pub summary : List Account → List ℕ
summary accounts = counts (length accounts) (count_by is_accepted accounts)
