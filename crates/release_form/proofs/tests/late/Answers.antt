use Rattle.std.proofs.Common.{arith, refl}
use Rattle.release_form.proofs.Told.{late_obeys}
use Rattle.release_form.proofs.tests.late.Goals as goal

pub returns-clause-obeys : goal.returns-clause-obeys
returns-clause-obeys c = late_obeys _ _ _ _ (omega arith) c.number.ensures refl
