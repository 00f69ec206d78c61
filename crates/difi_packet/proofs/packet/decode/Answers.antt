-- The words spell one packet, and those of no kind are refused at the first.
use Rattle.difi_packet.proofs.PacketLaws.{one_answer, no_kind}
use Rattle.difi_packet.proofs.packet.decode.Goals as goal

pub returns-in-Some-Data-clause-only : goal.returns-in-Some-Data-clause-only
returns-in-Some-Data-clause-only c = one_answer c.args.profile c.args.bytes.now c.read_data.result c.read_data.ensures.found c.read_data.ensures.refused

pub returns-in-Some-Context-clause-only : goal.returns-in-Some-Context-clause-only
returns-in-Some-Context-clause-only c = one_answer c.args.profile c.args.bytes.now c.read_context.result c.read_context.ensures.found c.read_context.ensures.refused

pub returns-in-Some-Version-clause-only : goal.returns-in-Some-Version-clause-only
returns-in-Some-Version-clause-only c = one_answer c.args.profile c.args.bytes.now c.read_version.result c.read_version.ensures.found c.read_version.ensures.refused

pub returns-in-Some-Control-clause-only : goal.returns-in-Some-Control-clause-only
returns-in-Some-Control-clause-only c = one_answer c.args.profile c.args.bytes.now c.read_control.result c.read_control.ensures.found c.read_control.ensures.refused

pub returns-in-Some-Cancel-clause-only : goal.returns-in-Some-Cancel-clause-only
returns-in-Some-Cancel-clause-only c = one_answer c.args.profile c.args.bytes.now c.read_cancel.result c.read_cancel.ensures.found c.read_cancel.ensures.refused

pub returns-in-Some-Ack-clause-only : goal.returns-in-Some-Ack-clause-only
returns-in-Some-Ack-clause-only c = one_answer c.args.profile c.args.bytes.now c.read_ack.result c.read_ack.ensures.found c.read_ack.ensures.refused

pub returns-in-None-clause-refused : goal.returns-in-None-clause-refused
returns-in-None-clause-refused c = no_kind c.args.profile c.args.bytes.now c.in-None.ensures.none

pub returns-in-None-clause-only : goal.returns-in-None-clause-only
returns-in-None-clause-only c = λ value d. (returns-in-None-clause-refused c).no_packet value d
