use Rattle.std.proofs.Common.{◌≢◌, ◌↔◌, [], true, IsTrue, sym, ◌∙◌, refl, subst}
use Rattle.sample_binder.specs.Queue.{State, owed}
use Rattle.sample_binder.proofs.GiveLemmas.{owes-told, owes-first_told}
use Rattle.sample_binder.proofs.binding.Binding.owes.Goals as goal

pub returns-then-is_some-clause-owes : goal.returns-then-is_some-clause-owes
returns-then-is_some-clause-owes c =
    let inside = c.self.inside in
    let old : State = record { pending = inside.pending; line = inside.timeline; queue = inside.queue.items; leaving = inside.leaving; ended = inside.ended } in
    subst (λ (s : State). IsTrue true ↔ (owed s ≢ [])) c.self.view_is (owes-told old c.self.invariant.is_state true (sym c.if-is_some.true ∙ c.is_some.ensures) refl)

pub returns-clause-owes : goal.returns-clause-owes
returns-clause-owes c =
    let inside = c.self.inside in
    let old : State = record { pending = inside.pending; line = inside.timeline; queue = inside.queue.items; leaving = inside.leaving; ended = inside.ended } in
    subst (λ (s : State). IsTrue c.decide_first.result ↔ (owed s ≢ [])) c.self.view_is
    (owes-first_told old c.self.invariant.is_state c.is_some.result c.is_some.ensures c.if-is_some.false c.decide_first.result c.decide_first.new.leaving c.decide_first.ensures.leaves c.decide_first.ensures.leaving)
