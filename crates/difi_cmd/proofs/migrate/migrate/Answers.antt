use Rattle.difi_cmd.proofs.Migrating.{all_told}
use Rattle.difi_cmd.proofs.migrate.migrate.Goals as goal

pub returns-clause-outcome : goal.returns-clause-outcome
returns-clause-outcome g c =
    all_told c.args.max_bytes c.run_record.result _ c.in-Ok-open.migration c.in-Ok-open.ensures.started c.run_record.ensures.outcome
