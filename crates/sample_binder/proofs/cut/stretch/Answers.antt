use Rattle.std.proofs.Common.{ap}
use Rattle.context_timeline.specs.Looks.{mark_of}
use Rattle.sample_binder.specs.Runs.{label_at, label_by}
use Rattle.sample_binder.proofs.CutLemmas.{stretch_with}
use Rattle.sample_binder.proofs.cut.stretch.Goals as goal

pub returns : goal.returns
returns c =
    let samples = c.args.samples.now in
    let found = c.look_end-end in
    let label = label_by samples.fields c.args.why (mark_of found.result.0) in
    stretch_with (label_at c.args.timeline.now c.args.why samples.stamp samples.fields) samples.number c.args.first found.result.1 c.end_from.result label
    found.ensures.later (λ m le lt. ap (label_by samples.fields c.args.why) (found.ensures.same m le lt)) c.end_from.ensures
