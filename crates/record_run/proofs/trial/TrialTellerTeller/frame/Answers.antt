use Rattle.std.proofs.Common.{arith}
use Rattle.record_run.proofs.trial.TrialTellerTeller.frame.Goals as goal

pub overflow_add-self : goal.overflow_add-self
overflow_add-self g c =
    let lent = c.requires.whole in
    omega (arith, c.requires.count lent.1 lent.3)
