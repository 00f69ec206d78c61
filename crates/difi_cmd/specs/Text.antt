-- What check and show write of a record: a line for each frame, with show the packet's lines under it, and a last one.
use Rattle.std.specs.Prelude.{◌≡◌, ℕ, ◌*◌, ◌<◌, ◌≤◌, ◌⊎◌, List, [], ◌∷◌, ◌++◌, length}
use Rattle.vrt_words.specs.Begins.{IsDatagram, IsRefused}
use Rattle.difi_packet.specs.Packet.{PacketValue, IsPacket}
use Rattle.replay_form.specs.FrameFields.{Frame}
use Rattle.replay_form.specs.Record.{IsRecord}
use Rattle.replay_form.specs.Standing.{HasNoHead, HasFrames}
use Rattle.replay_form.specs.declared.record_head.RecordHead.{RecordHead}
use Rattle.difi_texts.specs.declared.lines.Judgement.{Judgement}
use Rattle.difi_texts.specs.declared.lines.Judgement.TheVariants.{Accepted, Refused, TooLarge}
use Rattle.difi_texts.specs.declared.lines.Listing.{Listing}
use Rattle.difi_texts.specs.Lines.{Account, entries, summary}
use Rattle.difi_texts.specs.Accounts.{accepted, account_of, turned_away}

-- the datagram is this packet, and has no more words than the header allows
abbrev pub IsAccepted : RecordHead → List ℕ → PacketValue → Type 0
IsAccepted head datagram value = (length datagram ≤ 4 * head.max_words) × IsDatagram (IsPacket head.profile) value datagram

-- it is no packet, or it has more words
abbrev pub IsTurnedAway : RecordHead → List ℕ → Judgement → Type 0
IsTurnedAway head datagram (Accepted kind stream) = ⊥
IsTurnedAway head datagram (Refused word) =
    (length datagram ≤ 4 * head.max_words) × IsRefused (IsPacket head.profile) datagram word
IsTurnedAway head datagram TooLarge = 4 * head.max_words < length datagram

-- what is judged of a datagram
abbrev pub IsJudgement : RecordHead → List ℕ → Judgement → Type 0
IsJudgement head datagram judgement =
    ((value : PacketValue) × (IsAccepted head datagram value × (judgement ≡ accepted value))) ⊎ IsTurnedAway head datagram judgement

-- what is told of a datagram
abbrev pub IsAccount : Listing → RecordHead → List ℕ → Account → Type 0
IsAccount listing head datagram account =
    ((value : PacketValue) × (IsAccepted head datagram value × (account ≡ account_of listing value)))
    ⊎ ((judgement : Judgement) × (IsTurnedAway head datagram judgement × (account ≡ turned_away judgement)))

-- the accounts stand one for one with the frames
abbrev pub AreAccounts : Listing → RecordHead → List Frame → List Account → Type 0
AreAccounts listing head [] [] = Unit {0}
AreAccounts listing head [] (account ∷ accounts) = ⊥
AreAccounts listing head (frame ∷ frames) [] = ⊥
AreAccounts listing head (frame ∷ frames) (account ∷ accounts) =
    IsAccount listing head frame.datagram account × AreAccounts listing head frames accounts

-- the entries of these frames
abbrev pub AreEntries : Listing → RecordHead → List Frame → List ℕ → Type 0
AreEntries listing head frames text =
    (accounts : List Account) × (AreAccounts listing head frames accounts × (text ≡ entries 1 accounts))

-- the text of the frames that stand whole in the bytes
abbrev pub IsPart : Listing → List ℕ → List ℕ → Type 0
IsPart listing bytes text =
    (HasNoHead bytes × (text ≡ []))
    ⊎ ((head : RecordHead) × ((frames : List Frame) × (HasFrames head frames bytes × AreEntries listing head frames text)))

-- the entries of these frames, and the last line
abbrev pub IsWholeText : Listing → RecordHead → List Frame → List ℕ → Type 0
IsWholeText listing head frames text =
    (accounts : List Account) × (AreAccounts listing head frames accounts × (text ≡ entries 1 accounts ++ summary accounts))

-- the bytes are a record, and this is its text
abbrev pub IsOutput : Listing → List ℕ → List ℕ → Type 0
IsOutput listing bytes text =
    (head : RecordHead) × ((frames : List Frame) × (IsRecord head frames bytes × IsWholeText listing head frames text))
