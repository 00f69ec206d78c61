use Rattle.std.proofs.Common.{arith}
use Rattle.release_form.proofs.Told.{other_obeys}
use Rattle.release_form.proofs.tests.refused.Goals as goal

pub returns-clause-obeys : goal.returns-clause-obeys
returns-clause-obeys c = other_obeys _ _ _ (omega arith) c.number.ensures c.requires
