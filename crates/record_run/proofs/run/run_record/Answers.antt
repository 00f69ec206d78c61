use Rattle.record_run.proofs.Complete.{complete}
use Rattle.record_run.proofs.run.run_record.Goals as goal

pub returns-in-Ok-clause-complete : goal.returns-in-Ok-clause-complete
returns-in-Ok-clause-complete g c = complete c.read_record.result _ g.met.I.Intake.lawful _ c.read_record.ensures.outcome
