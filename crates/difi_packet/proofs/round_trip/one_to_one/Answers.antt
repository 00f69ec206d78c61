-- The words spell one packet, and a packet is spelled by one list of bytes.
use Rattle.vrt_words.specs.Words.{words_of}
use Rattle.difi_packet.proofs.PacketLaws.{one_packet}
use Rattle.difi_packet.proofs.OneSpelling.{one_datagram}
use Rattle.difi_packet.proofs.round_trip.one_to_one.Goals as goal

pub returns-clause-one_packet : goal.returns-clause-one_packet
returns-clause-one_packet c = λ profile a b bytes p q. one_packet profile a b (words_of bytes) p.packet q.packet

pub returns-clause-one_datagram : goal.returns-clause-one_datagram
returns-clause-one_datagram c = one_datagram
