use Rattle.std.proofs.Common.{sym, ◌∙◌}
use Rattle.difi_gateway.proofs.WriteLemmas.{packet_last}
use Rattle.difi_gateway.proofs.writing.last_packet.Goals as goal

pub returns-in-Some : goal.returns-in-Some
returns-in-Some c = c.bytes.ensures.bytes ∙ packet_last c.args.buffers.now c.in-Some.buf.now (sym c.in-Some.ensures.value)
