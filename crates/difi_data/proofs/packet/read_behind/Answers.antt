-- The payload is what stands behind the prologue.
use Rattle.std.proofs.Common.{refl}
use Rattle.std.proofs.lemmas.List.{take_rest}
use Rattle.difi_data.proofs.packet.read_behind.Goals as goal

pub returns-in-Ok-clause-found : goal.returns-in-Ok-clause-found
returns-in-Ok-clause-found c = (refl, take_rest c.args.bytes.now 28, c.in-Ok.ensures.right)
