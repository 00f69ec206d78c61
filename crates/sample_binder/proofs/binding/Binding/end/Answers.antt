use Rattle.std.proofs.Common.{sym, ap, ◌∙◌, subst}
use Rattle.sample_binder.specs.Queue.{State, owed, StandsFor}
use Rattle.sample_binder.proofs.StateLemmas.{stands-end}
use Rattle.sample_binder.proofs.binding.Binding.end.Goals as goal

pub returns-clause-history : goal.returns-clause-history
returns-clause-history c = λ limits events taken h.
    let inside = c.self.inside in
    let old : State = record { pending = inside.pending; line = inside.timeline; queue = inside.queue.items; leaving = inside.leaving; ended = inside.ended } in
    let before : StandsFor old limits events taken = subst (λ (s : State). StandsFor s limits events taken) (sym c.self.view_is) h in
    stands-end old limits events taken before c.self.invariant.is_state (ap owed c.self.view_is ∙ c.requires.nothing)
