-- The packet is that of the decoder.
use Rattle.difi_packet.specs.Packet.{value_of}
use Rattle.difi_packet.proofs.classifying.classify_other.Goals as goal

pub returns-in-Ok-clause-found : goal.returns-in-Ok-clause-found
returns-in-Ok-clause-found c = (value_of c.in-Ok.packet, (c.in-Ok.ensures.found, c.kind_and_stream.ensures))
