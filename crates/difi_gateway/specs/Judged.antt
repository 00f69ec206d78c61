-- Why a datagram is no packet, with what shows it; and of what stream it is a data packet.
use Rattle.std.specs.Prelude.{◌≡◌, ℕ, ◌*◌, ◌<◌, ◌≤◌, List, length}
use Rattle.vrt_words.specs.Begins.{IsDatagram, IsRefused}
use Rattle.vrt_header.specs.Profile.{PacketProfile}
use Rattle.difi_data.specs.Data.{DataPacket, IsData}
use Rattle.difi_packet.specs.Packet.{IsPacket}
use Rattle.release_form.specs.declared.refusal.Refusal.{Refusal}
use Rattle.release_form.specs.declared.refusal.Refusal.TheVariants.{TooLarge, Malformed}

-- it has so many bytes, which are more than a packet may have, or it is refused at this word
abbrev pub IsNoPacket : PacketProfile → ℕ → List ℕ → Refusal → ℕ → Type 0
IsNoPacket profile max_words datagram TooLarge detail = (4 * max_words < length datagram) × (detail ≡ length datagram)
IsNoPacket profile max_words datagram Malformed detail = (length datagram ≤ 4 * max_words) × IsRefused (IsPacket profile) datagram detail
IsNoPacket profile max_words datagram refusal detail = ⊥

-- it is a data packet of this stream, and has no more bytes than a packet may have
pub record IsDataOfStream (profile : PacketProfile) (max_words : ℕ) (datagram : List ℕ) (stream : ℕ) : Type 0 where
  pub fits : length datagram ≤ 4 * max_words
  pub packet : DataPacket
  pub is : IsDatagram (IsData profile) packet datagram
  pub stream_is : stream ≡ packet.prologue.stream
