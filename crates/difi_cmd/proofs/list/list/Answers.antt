use Rattle.difi_cmd.proofs.Telling.{begun_told}
use Rattle.difi_cmd.proofs.list.list.Goals as goal

pub returns-clause-outcome : goal.returns-clause-outcome
returns-clause-outcome g c =
    begun_told c.args.options.listing c.args.options.max_bytes c.run_record.result _ c.new-report.result
    c.new-report.ensures.listing c.new-report.ensures.frames c.new-report.ensures.accepted c.new-report.ensures.ended c.run_record.ensures.outcome
