use Rattle.replay_form.proofs.IntakeLaws.{intake_step, intake_wrong}
use Rattle.record_run.proofs.RecordReading.{ok_both, err_both}
use Rattle.record_run.proofs.record.RecordReaderIntake.feed.Goals as goal

pub returns-clause-step : goal.returns-clause-step
returns-clause-step c =
    ok_both _ _ _ (λ step is stands. intake_step c.args.self.now c.args.piece.now step.0 step.1 c.feed.new.self is c.requires.standing stands) c.feed.result c.feed.ensures.step c.feed.ensures.stands

pub returns-clause-wrong : goal.returns-clause-wrong
returns-clause-wrong c =
    err_both _ _ _ (λ fault is stands. intake_wrong c.args.self.now c.args.piece.now fault.offset c.feed.new.self is stands) c.feed.result c.feed.ensures.wrong c.feed.ensures.fails
