use Rattle.std.proofs.Common.{◌≡◌, ◌+◌, List, ℕ, length, subst, sym, ap, ◌∙◌, arith}
use Rattle.release_form.specs.Layout.{front_of_run}
use Rattle.release_form.specs.Sizes.{run_part_size}
use Rattle.release_form.specs.Release.{IsRecordOf}
use Rattle.release_form.proofs.Pushed.{run_size}
use Rattle.release_form.proofs.size.size_of.Goals as goal

pub returns-in-Run-clause-whole : goal.returns-in-Run-clause-whole
returns-in-Run-clause-whole c = λ payload written e r.
    run_size _ _ _ c.in-Run.run' payload written (subst (λ s. IsRecordOf s payload written) c.in-Run.is r)
    ∙ ap (λ n. front_of_run c.in-Run.run' + run_part_size c.in-Run.run' n) e ∙ sym c.size_of_run.ensures
