use Rattle.record_run.proofs.Going.{goes_nowhere}
use Rattle.record_run.proofs.trial.TrialTellerTeller.begin.Goals as goal

pub returns-in-Ok-clause-goes : goal.returns-in-Ok-clause-goes
returns-in-Ok-clause-goes g c = λ head known. goes_nowhere head _

pub returns-else-self-clause-goes : goal.returns-else-self-clause-goes
returns-else-self-clause-goes g c = λ head known. goes_nowhere head _
