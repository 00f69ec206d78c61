use Rattle.difi_gateway.proofs.OneReading.{one_part, one_out}
use Rattle.difi_gateway.proofs.laws.frames_have_one_text.Goals as goal

pub returns-clause-so_far : goal.returns-clause-so_far
returns-clause-so_far c = one_part

pub returns-clause-whole : goal.returns-clause-whole
returns-clause-whole c = one_out
