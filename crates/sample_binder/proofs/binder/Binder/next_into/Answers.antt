use Rattle.std.proofs.Common.{◌≡◌, ◌+◌, Some, None, Option, slice_get, sym, ◌∙◌, subst}
use Rattle.sample_binder.specs.Binder.{BinderState, StandsFor, Follows, AreSeen}
use Rattle.context_timeline.specs.State.{TimelineState}
use Rattle.sample_binder.specs.Calls.{outputs_of}
use Rattle.sample_binder.specs.declared.out.Out.{Out}
use Rattle.sample_binder.specs.GivenOut.{out_by}
use Rattle.sample_binder.specs.Queue.{owed}
use Rattle.sample_binder.proofs.NextLemmas.{follows_next, given_next, none_next}
use Rattle.sample_binder.proofs.binder.Binder.next_into.Goals as goal

pub returns-in-None-clause-given : goal.returns-in-None-clause-given
returns-in-None-clause-given c = λ calls taken h.
    let inside = c.self.inside in
    let follows : Follows inside.limits inside.contexts inside.packets inside.binding inside.told calls taken =
    subst (λ (b : BinderState). StandsFor b calls taken) (sym c.self.view_is) h in
    subst (λ (b : BinderState). ◌≡◌ {A = Option Out} None (slice_get (outputs_of b.limits calls) taken)) c.self.view_is
    (none_next inside.limits inside.contexts inside.packets inside.binding inside.told calls taken follows c.in-None.ensures.none (λ on. c.self.invariant.at_rest on c.in-None.ensures.none))

pub invariant_of-self-2 : goal.invariant_of-self-2
invariant_of-self-2 c =
    let inside = c.self.inside in
    let old = c.self.invariant in
    let line : c.next_into.new.self.line ≡ inside.binding.line = c.next_into.ensures.line in
    let seen : AreSeen inside.limits.kept inside.given inside.contexts inside.packets c.next_into.new.self.line inside.told =
    subst (λ (l : TimelineState). AreSeen inside.limits.kept inside.given inside.contexts inside.packets l inside.told) (sym line) old.seen in
    record {
      limits = old.limits;
      context_size = c.go_on.ensures.context_size ∙ old.context_size;
      data_size = c.go_on.ensures.data_size ∙ old.data_size;
      pending = c.go_on.ensures.pending ∙ c.next_into.ensures.limit ∙ old.pending;
      few = old.few;
      seen = c.go_on.ensures.seen inside.limits.kept inside.given seen;
      running = λ off. c.go_on.ensures.running off ∙ c.next_into.ensures.ended ∙ old.running off;
      at_rest = λ on. c.go_on.ensures.at_rest on;
    }

pub returns-clause-given : goal.returns-clause-given
returns-clause-given c = λ calls taken h.
    let inside = c.self.inside in
    let follows : Follows inside.limits inside.contexts inside.packets inside.binding inside.told calls taken =
    subst (λ (b : BinderState). StandsFor b calls taken) (sym c.self.view_is) h in
    let given = out_by c.in-Some.given c.next_into.new.run in
    subst (λ (b : BinderState). Some given ≡ slice_get (outputs_of b.limits calls) taken) c.self.view_is
    (given_next inside.limits inside.contexts inside.packets inside.binding inside.told calls taken follows given (owed c.next_into.new.self) c.in-Some.ensures.given)

pub returns-clause-stands : goal.returns-clause-stands
returns-clause-stands c = λ calls taken h.
    let inside = c.self.inside in
    let follows : Follows inside.limits inside.contexts inside.packets inside.binding inside.told calls taken =
    subst (λ (b : BinderState). StandsFor b calls taken) (sym c.self.view_is) h in
    c.go_on.ensures.follows inside.limits calls (taken + 1)
    (follows_next inside.limits inside.contexts inside.packets inside.binding c.next_into.new.self inside.told calls taken c.next_into.ensures.ended
    (λ events s. c.in-Some.ensures.history inside.limits events taken s) follows)
