use Rattle.record_run.proofs.Feeding.{told_further, wrong_at}
use Rattle.record_run.proofs.run.take.Goals as goal

pub returns-in-Ok-flush-2-clause-taken : goal.returns-in-Ok-flush-2-clause-taken
returns-in-Ok-flush-2-clause-taken g c = λ taken frames stands.
    let s = wrong_at g.I.Intake.grammar c.in-Err-Wrong.field-0 c.in-Err-Wrong.offset _ _ _ (g.I.Intake.reads c.feed_all.new.intake) _ _ _ _ taken frames c.in-Err-Wrong.field-0-is (c.in-Err-Wrong.ensures.fed taken frames stands) in record {
      wrong = s.wrong;
      told = told_further g.I.Intake.grammar _ _ _ _ _ _ _ taken frames c.in-Ok-flush-2.ensures.sent s.told;
    }

pub returns-in-Err-flush-clause-taken : goal.returns-in-Err-flush-clause-taken
returns-in-Err-flush-clause-taken g c = λ taken frames stands.
    let s = wrong_at g.I.Intake.grammar c.in-Err-Wrong.field-0 c.in-Err-Wrong.offset _ _ _ (g.I.Intake.reads c.feed_all.new.intake) _ _ _ _ taken frames c.in-Err-Wrong.field-0-is (c.in-Err-Wrong.ensures.fed taken frames stands) in
    told_further g.I.Intake.grammar _ _ _ _ _ _ _ taken frames c.in-Err-flush.ensures.sent s.told
