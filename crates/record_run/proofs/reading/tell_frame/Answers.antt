use Rattle.std.proofs.Common.{◌++◌, [], ◌∷◌}
use Rattle.record_run.proofs.Going.{counts_on, goes_on, sends_on, sends_put}
use Rattle.record_run.proofs.reading.tell_frame.Goals as goal

pub returns-clause-counts : goal.returns-clause-counts
returns-clause-counts g c = λ frame whole.
    counts_on (g.I.Intake.grammar.size frame) _ _ _ (c.frame.ensures.counts frame whole) c.settle.ensures.put.keeps

pub returns-clause-told : goal.returns-clause-told
returns-clause-told g c = λ head frame known whole.
    let one = c.frame.ensures.told head frame known whole in
    let all = c.settle.ensures.put.told head in (
      one.text ++ all.0,
      (
        goes_on head (frame ∷ []) [] one.text all.0 _ _ _ one.goes all.1.0,
        sends_on one.text all.0 _ _ _ (sends_put one.text c.args.out.now.failed _ _ _ _ one.put) all.1.1,
      ),
    )
