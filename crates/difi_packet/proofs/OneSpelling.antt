-- A packet is spelled by one list of bytes.
use Rattle.std.proofs.Common.{◌≡◌, ℕ, List}
use Rattle.vrt_words.specs.Words.{AreBytes}
use Rattle.vrt_words.specs.Begins.{IsDatagram}
use Rattle.vrt_header.specs.Profile.{PacketProfile}
use Rattle.difi_data.proofs.SpellingLaws.{one_datagram as one_data_datagram}
use Rattle.difi_context.proofs.SpellingLaws.{one_datagram as one_context_datagram}
use Rattle.difi_version.proofs.SpellingLaws.{one_datagram as one_version_datagram}
use Rattle.command_codec.proofs.ControlLaws.{one_datagram as one_control_datagram}
use Rattle.command_codec.proofs.CancelLaws.{one_datagram as one_cancel_datagram}
use Rattle.ack_codec.proofs.SpellingLaws.{one_datagram as one_ack_datagram}
use Rattle.difi_packet.specs.Packet.{PacketValue, DataValue, ContextValue, VersionValue, ControlValue, CancelValue, AckValue, IsPacket}

pub one_datagram : (profile : PacketProfile) (value : PacketValue) (a b : List ℕ) → AreBytes a → AreBytes b
    → IsDatagram (IsPacket profile) value a → IsDatagram (IsPacket profile) value b → a ≡ b
one_datagram profile (DataValue packet) a b fits fits' p q =
    one_data_datagram profile packet a b fits fits' (record { whole = p.whole; packet = p.packet }) (record { whole = q.whole; packet = q.packet })
one_datagram profile (ContextValue rec) a b fits fits' p q =
    one_context_datagram profile rec a b fits fits' (record { whole = p.whole; packet = p.packet }) (record { whole = q.whole; packet = q.packet })
one_datagram profile (VersionValue rec) a b fits fits' p q =
    one_version_datagram profile rec a b fits fits' (record { whole = p.whole; packet = p.packet }) (record { whole = q.whole; packet = q.packet })
one_datagram profile (ControlValue packet) a b fits fits' p q =
    one_control_datagram profile packet a b fits fits' (record { whole = p.whole; packet = p.packet }) (record { whole = q.whole; packet = q.packet })
one_datagram profile (CancelValue packet) a b fits fits' p q =
    one_cancel_datagram profile packet a b fits fits' (record { whole = p.whole; packet = p.packet }) (record { whole = q.whole; packet = q.packet })
one_datagram profile (AckValue packet) a b fits fits' p q =
    one_ack_datagram profile packet a b fits fits' (record { whole = p.whole; packet = p.packet }) (record { whole = q.whole; packet = q.packet })
