use Rattle.std.proofs.Common.{◌-◌, ◌∷◌, ℕ, sym, ap, ◌∙◌}
use Rattle.context_timeline.specs.Looks.{mark_of}
use Rattle.sample_binder.specs.declared.label.Label.{Label}
use Rattle.sample_binder.specs.declared.out.Run.{Run}
use Rattle.sample_binder.specs.Runs.{label_by, run_by}
use Rattle.sample_binder.specs.Left.{runs_left_of, rest_from}
use Rattle.sample_binder.proofs.RunLemmas.{first_run, rest_leaves}
use Rattle.sample_binder.proofs.cut.next_stretch.Goals as goal

pub returns-clause-runs : goal.returns-clause-runs
returns-clause-runs c =
    let line = c.args.timeline.now in
    let why = c.args.why in
    let samples = c.args.samples.now in
    let label = label_by samples.fields why (mark_of c.stretch-end.result.0) in
    let end : ℕ = c.stretch-end.result.1 in
    let first : ℕ = c.args.first in
    first_run line why samples first end label c.stretch-end.ensures c.requires.start
    ∙ ap (λ (l : Label). run_by l samples.stamp samples.fields (first, end - first) ∷ runs_left_of line why (rest_from samples end)) (sym c.stretch-end.ensures.label_told)
    ∙ ap (λ (r : Run). r ∷ runs_left_of line why (rest_from samples end)) (sym c.put_run.ensures)

pub returns-clause-rest : goal.returns-clause-rest
returns-clause-rest c =
    let line = c.args.timeline.now in
    let samples = c.args.samples.now in
    let label = label_by samples.fields c.args.why (mark_of c.stretch-end.result.0) in
    rest_leaves line c.args.why samples c.args.first c.stretch-end.result.1 label c.stretch-end.ensures c.requires.sampling
