-- The words spell one packet.
use Rattle.difi_packet.proofs.PacketLaws.{one_class}
use Rattle.difi_packet.proofs.classifying.classify.Goals as goal

pub returns-in-Some-Data-clause-only : goal.returns-in-Some-Data-clause-only
returns-in-Some-Data-clause-only c =
    one_class c.args.profile c.args.bytes.now c.classify_data.result c.classify_data.ensures.found c.classify_data.ensures.refused

pub returns-in-Some-Context-clause-only : goal.returns-in-Some-Context-clause-only
returns-in-Some-Context-clause-only c =
    one_class c.args.profile c.args.bytes.now c.classify_context.result c.classify_context.ensures.found c.classify_context.ensures.refused

pub returns-in_default-clause-only : goal.returns-in_default-clause-only
returns-in_default-clause-only c =
    one_class c.args.profile c.args.bytes.now c.classify_other.result c.classify_other.ensures.found c.classify_other.ensures.refused
