-- UDP datagrams in the bytes of an Ethernet frame, by IEEE 802.1Q, RFC 791 and RFC 768.
use Rattle.std.specs.Prelude.{◌≡◌, ℕ, ◌+◌, ◌-◌, ◌*◌, ◌/◌, ◌%◌, ◌^◌, ◌<◌, ◌≤◌, ◌⊎◌, true, List, length, take, drop, slice_index}
use Rattle.pcap_frames.specs.Numbers.{number_in}

-- the 16-bit number at an offset, the highest byte first
abbrev pub number_at : ℕ → List ℕ → ℕ
number_at offset bytes = number_in true offset 2 bytes

-- the EtherType of a tag
abbrev pub IsTag : ℕ → Type 0
IsTag type_number = (type_number ≡ 0x8100) ⊎ (type_number ≡ 0x88A8)

-- an IPv4 packet begins at this offset: behind at most two tags, and the EtherType of IPv4
pub record IsPacketAt (bytes : List ℕ) (start : ℕ) : Type 0 where
  pub tags : ℕ
  pub few : tags ≤ 2
  pub place : start ≡ 14 + 4 * tags
  pub tagged : (i : ℕ) → i < tags → IsTag (number_at (12 + 4 * i) bytes)
  pub packet : number_at (12 + 4 * tags) bytes ≡ 0x0800

-- the bytes of its header, of which the low half of the first byte tells a fourth; its total length; and the length of the UDP
-- datagram, its header counted
abbrev pub header_size : List ℕ → ℕ → ℕ
header_size bytes start = 4 * (slice_index bytes start % 16)

abbrev pub total_size : List ℕ → ℕ → ℕ
total_size bytes start = number_at (start + 2) bytes

abbrev pub datagram_size : List ℕ → ℕ → ℕ
datagram_size bytes start = number_at (start + header_size bytes start + 4) bytes

-- the packet is no fragment and holds a whole UDP datagram, all of which is there
pub record IsUdpAt (bytes : List ℕ) (start : ℕ) : Type 0 where
  pub version : slice_index bytes start / 16 ≡ 4
  pub header : 20 ≤ header_size bytes start
  pub room : header_size bytes start + 8 ≤ total_size bytes start
  pub there : start + total_size bytes start ≤ length bytes
  pub unfragmented : number_at (start + 6) bytes % 2 ^ 14 ≡ 0
  pub udp : slice_index bytes (start + 9) ≡ 17
  pub least : 8 ≤ datagram_size bytes start
  pub within : datagram_size bytes start + header_size bytes start ≤ total_size bytes start

-- a datagram: the ports that it came from and went to, and what it carries
pub record UdpDatagram : Type 0 where
  pub source : ℕ
  pub destination : ℕ
  pub payload : List ℕ

-- the datagram whose header begins at this offset
abbrev pub datagram_at : List ℕ → ℕ → ℕ → UdpDatagram
datagram_at bytes offset size = record {
  source = number_at offset bytes;
  destination = number_at (offset + 2) bytes;
  payload = take (size - 8) (drop (offset + 8) bytes);
}

-- the bytes hold this datagram
pub record HoldsDatagram (datagram : UdpDatagram) (bytes : List ℕ) : Type 0 where
  pub start : ℕ
  pub packet : IsPacketAt bytes start
  pub inside : IsUdpAt bytes start
  pub told : datagram ≡ datagram_at bytes (start + header_size bytes start) (datagram_size bytes start)
