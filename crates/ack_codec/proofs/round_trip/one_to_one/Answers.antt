-- The laws of the definition.
use Rattle.vrt_words.specs.Words.{words_of}
use Rattle.ack_codec.proofs.AckLaws.{one_ack}
use Rattle.ack_codec.proofs.SpellingLaws.{one_datagram}
use Rattle.ack_codec.proofs.round_trip.one_to_one.Goals as goal

pub returns-clause-one_packet : goal.returns-clause-one_packet
returns-clause-one_packet c = λ profile a b bytes p q. one_ack profile a b (words_of bytes) p.packet q.packet

pub returns-clause-one_datagram : goal.returns-clause-one_datagram
returns-clause-one_datagram c = one_datagram
