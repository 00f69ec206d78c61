use Rattle.std.proofs.Common.{[]}
use Rattle.record_run.proofs.Going.{goes_on}
use Rattle.record_run.proofs.reading.tell_head.Goals as goal

pub returns-in-Ok-clause-told : goal.returns-in-Ok-clause-told
returns-in-Ok-clause-told g c = λ head known.
    let all = c.settle.ensures.put.told head in (
      all.0,
      (
        goes_on head [] [] [] all.0 _ _ _ (c.in-Ok.ensures.goes head known) all.1.0,
        all.1.1,
      ),
    )
