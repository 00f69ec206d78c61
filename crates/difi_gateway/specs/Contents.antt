-- What the frames of a record hold.
use Rattle.std.specs.Prelude.{◌≡◌, ℕ, ◌*◌, ◌<◌, ◌≤◌, List, length, map}
use Rattle.std.specs.List.{AllByRecursion}
use Rattle.vrt_words.specs.Begins.{IsDatagram, IsRefused}
use Rattle.difi_packet.specs.Packet.{PacketValue, IsPacket}
use Rattle.replay_form.specs.FrameFields.{Frame}
use Rattle.replay_form.specs.declared.record_head.RecordHead.{RecordHead}

-- a datagram with so many bytes, which are more than a packet may have; one that is no packet, and is refused at this word; or a
-- packet
pub data Content : Type 0 where
  Larger : (size : ℕ) → Content
  NoPacket : (word : ℕ) → Content
  Holds : (packet : PacketValue) → Content

abbrev pub IsContent : RecordHead → List ℕ → Content → Type 0
IsContent head datagram (Larger size) = (4 * head.max_words < length datagram) × (size ≡ length datagram)
IsContent head datagram (NoPacket word) = (length datagram ≤ 4 * head.max_words) × IsRefused (IsPacket head.profile) datagram word
IsContent head datagram (Holds packet) = (length datagram ≤ 4 * head.max_words) × IsDatagram (IsPacket head.profile) packet datagram

-- a frame, and what its datagram holds
pub record Received : Type 0 where
  pub frame : Frame
  pub content : Content

abbrev pub IsReceived : RecordHead → Received → Type 0
IsReceived head received = IsContent head received.frame.datagram received.content

abbrev pub frame_of : Received → Frame
frame_of received = received.frame

-- the frames, each with what it holds
pub record AreReceived (head : RecordHead) (frames : List Frame) (received : List Received) : Type 0 where
  pub frames_are : frames ≡ map frame_of received
  pub contents : AllByRecursion (IsReceived head) received
