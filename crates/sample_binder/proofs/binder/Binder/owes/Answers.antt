use Rattle.std.proofs.Common.{◌+◌, ◌<◌, ◌≤◌, ◌↔◌, IsTrue, length, sym, ap, ◌∙◌, subst, arith}
use Rattle.sample_binder.specs.Queue.{owed}
use Rattle.sample_binder.proofs.DrainLemmas.{none_owed}
use Rattle.sample_binder.specs.Binder.{BinderState, StandsFor, Follows}
use Rattle.sample_binder.specs.Calls.{outputs_of}
use Rattle.sample_binder.proofs.NextLemmas.{owes_due, held_within}
use Rattle.sample_binder.proofs.binder.Binder.owes.Goals as goal

pub returns-clause-due : goal.returns-clause-due
returns-clause-due c = λ calls taken h.
    let inside = c.self.inside in
    let follows : Follows inside.limits inside.contexts inside.packets inside.binding inside.told calls taken =
    subst (λ (b : BinderState). StandsFor b calls taken) (sym c.self.view_is) h in
    subst (λ (b : BinderState). IsTrue c.owes.result ↔ (taken < length (outputs_of b.limits calls))) c.self.view_is
    (owes_due inside.limits inside.contexts inside.packets inside.binding inside.told calls taken follows c.self.invariant.at_rest c.owes.result c.owes.ensures.owes)

pub returns-clause-few : goal.returns-clause-few
returns-clause-few c =
    let inside = c.self.inside in
    subst (λ (b : BinderState). length b.packets.held + length b.state.queue ≤ b.limits.data_window + 1 + b.limits.pending) c.self.view_is
    (omega (arith, held_within inside.packets inside.told c.self.invariant.seen.packets_seen, c.owes.ensures.room, c.self.invariant.data_size, c.self.invariant.pending))

pub returns-clause-nothing : goal.returns-clause-nothing
returns-clause-nothing c = λ off.
    sym (ap (λ (b : BinderState). owed b.state) c.self.view_is) ∙ none_owed c.owes.result (owed c.self.inside.binding) c.owes.ensures.owes off
