-- The laws of the definitions.
use Rattle.difi_context.proofs.ContextLaws as laws
use Rattle.difi_context.proofs.SpellingLaws.{one_datagram}
use Rattle.difi_context.proofs.round_trip.one_to_one.Goals as goal

pub returns-clause-one_packet : goal.returns-clause-one_packet
returns-clause-one_packet c = laws.one_datagram

pub returns-clause-one_datagram : goal.returns-clause-one_datagram
returns-clause-one_datagram c = one_datagram
