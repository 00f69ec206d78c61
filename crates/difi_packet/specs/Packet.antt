-- Packets of any kind, by cases on the kind.
use Rattle.std.specs.Prelude.{◌≡◌, ℕ, List, drop}
use Rattle.vrt_words.specs.Begins.{IsDatagram}
use Rattle.vrt_header.specs.Profile.{PacketProfile}
use Rattle.difi_data.specs.Data.{DataPacket, IsData, packet_of}
use Rattle.difi_context.specs.Context.{IsContext}
use Rattle.difi_version.specs.Version.{IsVersion}
use Rattle.command_codec.specs.Control.{IsControl}
use Rattle.command_codec.specs.Cancel.{IsCancel}
use Rattle.ack_codec.specs.Ack.{front_of, IsAck}
use Rattle.difi_context.specs.declared.context.ContextRec.{ContextRec}
use Rattle.difi_version.specs.declared.version.VersionRec.{VersionRec}
use Rattle.command_codec.specs.declared.control.Control as controls
use Rattle.command_codec.specs.declared.cancel.Cancel as cancels
use Rattle.ack_codec.specs.declared.ack.Ack as acks
use Rattle.ack_codec.specs.declared.ack.Ack.TheVariants.{V, X, S}
use Rattle.difi_packet.specs.declared.kind.PacketKind.{PacketKind}
use Rattle.difi_packet.specs.declared.kind.PacketKind.TheVariants as kinds
use Rattle.difi_packet.specs.declared.packet.Packet.{Packet}
use Rattle.difi_packet.specs.declared.packet.Packet.TheVariants.{Data, Context, Version, Control, Cancel, Ack}

-- a packet of one of the kinds
pub data PacketValue : Type 0 where
  DataValue : (packet : DataPacket) → PacketValue
  ContextValue : (rec : ContextRec) → PacketValue
  VersionValue : (rec : VersionRec) → PacketValue
  ControlValue : (packet : controls.Control) → PacketValue
  CancelValue : (packet : cancels.Cancel) → PacketValue
  AckValue : (packet : acks.Ack) → PacketValue

-- the packet that a value of the program stands for, wherever its payload lies
abbrev pub value_of : Packet → PacketValue
value_of (Data rec) = DataValue (packet_of rec)
value_of (Context rec) = ContextValue rec
value_of (Version rec) = VersionValue rec
value_of (Control packet) = ControlValue packet
value_of (Cancel packet) = CancelValue packet
value_of (Ack packet) = AckValue packet

-- these words, and no others, are a packet of this kind
abbrev pub IsPacket : PacketProfile → PacketValue → List ℕ → Type 0
IsPacket profile (DataValue packet) words = IsData profile packet words
IsPacket profile (ContextValue rec) words = IsContext profile rec words
IsPacket profile (VersionValue rec) words = IsVersion profile rec words
IsPacket profile (ControlValue packet) words = IsControl profile packet words
IsPacket profile (CancelValue packet) words = IsCancel profile packet words
IsPacket profile (AckValue packet) words = IsAck profile packet words

-- the words of a packet: those of its kind, or the size in its header
abbrev pub size_in_words : PacketValue → ℕ
size_in_words (DataValue packet) = packet.prologue.header.size
size_in_words (ContextValue rec) = 27
size_in_words (VersionValue rec) = 11
size_in_words (ControlValue packet) = packet.prologue.header.size
size_in_words (CancelValue packet) = packet.prologue.header.size
size_in_words (AckValue packet) = (front_of packet).prologue.header.size

-- a payload is all bytes behind the prologue
abbrev pub IsLentFrom : List ℕ → Packet → Type 0
IsLentFrom bytes (Data rec) = rec.payload.now ≡ drop 28 bytes
IsLentFrom bytes packet = Unit {0}

-- the kind of a packet, and its stream identifier
abbrev pub ack_kind_and_stream : acks.Ack → PacketKind × ℕ
ack_kind_and_stream (V report) = (kinds.AckV, report.prologue.stream)
ack_kind_and_stream (X report) = (kinds.AckX, report.prologue.stream)
ack_kind_and_stream (S state) = (kinds.AckS, state.prologue.stream)

abbrev pub kind_and_stream : PacketValue → PacketKind × ℕ
kind_and_stream (DataValue packet) = (kinds.Data, packet.prologue.stream)
kind_and_stream (ContextValue rec) = (kinds.Context, rec.prologue.stream)
kind_and_stream (VersionValue rec) = (kinds.Version, rec.prologue.stream)
kind_and_stream (ControlValue packet) = (kinds.Control, packet.prologue.stream)
kind_and_stream (CancelValue packet) = (kinds.Cancel, packet.prologue.stream)
kind_and_stream (AckValue packet) = ack_kind_and_stream packet

-- the datagram is a packet of this kind and stream
abbrev pub IsClassified : PacketProfile → List ℕ → PacketKind × ℕ → Type 0
IsClassified profile bytes told = (value : PacketValue) × (IsDatagram (IsPacket profile) value bytes × (told ≡ kind_and_stream value))
