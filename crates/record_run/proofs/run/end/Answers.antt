use Rattle.std.proofs.Common.{refl}
use Rattle.record_run.proofs.Feeding.{end_told}
use Rattle.record_run.proofs.run.end.Goals as goal

pub returns-in-Ok-flush-clause-ended : goal.returns-in-Ok-flush-clause-ended
returns-in-Ok-flush-clause-ended g c = λ taken frames stands.
    end_told g.I.Intake.grammar _ _ _ _ _ (record { failed = c.args.out.now.failed; waiting = c.end.new.out; held = g.K.Sink.held c.args.sink.now; faults = g.K.Sink.faults c.args.sink.now }) _ taken frames
    (c.in-Ok.ensures.whole taken frames stands) c.end.ensures.told refl c.settle.ensures.put c.settle.ensures.settled _ c.in-Ok-flush.ensures.sent

pub returns-in-Err-flush-clause-ended : goal.returns-in-Err-flush-clause-ended
returns-in-Err-flush-clause-ended g c = λ taken frames stands.
    end_told g.I.Intake.grammar _ _ _ _ _ (record { failed = c.args.out.now.failed; waiting = c.end.new.out; held = g.K.Sink.held c.args.sink.now; faults = g.K.Sink.faults c.args.sink.now }) _ taken frames
    (c.in-Ok.ensures.whole taken frames stands) c.end.ensures.told refl c.settle.ensures.put c.settle.ensures.settled _ c.in-Err-flush.ensures.sent
