use Rattle.std.proofs.Common.{◌≡◌, ◌<◌, ◌^◌, [], List, Ok, Err, false, refl, sym, ap, ◌∙◌, subst, arith}
use Rattle.std.proofs.lemmas.List.{append-nil}
use Rattle.difi_context.specs.declared.context.ContextRec.{ContextRec}
use Rattle.difi_context.specs.contracts.context.ContextRecPartialEq.TheImpl as same
use Rattle.reorder_window.specs.State.{Holding}
use Rattle.sample_binder.specs.Arrivals.{released_list}
use Rattle.sample_binder.specs.Binder.{BinderState, IsBinderState, StandsFor, Follows, without_packet}
use Rattle.sample_binder.specs.Events.{Event}
use Rattle.sample_binder.specs.Queue.{State, owed}
use Rattle.sample_binder.specs.Queue as queue
use Rattle.sample_binder.proofs.BinderLemmas.{undrained_contexts, later_released, seen_context, turned_context, answer_context, follows_context, bound_context, added_within, grammar_of, same_but}
use Rattle.sample_binder.proofs.binder.Binder.context.Goals as goal

pub arrive_context-requires-clause-undrained : goal.arrive_context-requires-clause-undrained
arrive_context-requires-clause-undrained c =
    let inside = c.self.inside in
    let untold : inside.told ≡ false = ap (λ (b : BinderState). b.told) c.self.view_is ∙ c.requires.untold in
    undrained_contexts inside.limits.kept inside.given inside.contexts inside.binding.line inside.told c.self.invariant.seen.contexts_seen untold

pub give_context-requires-clause-later : goal.give_context-requires-clause-later
give_context-requires-clause-later c =
    let inside = c.self.inside in
    let untold : inside.told ≡ false = ap (λ (b : BinderState). b.told) c.self.view_is ∙ c.requires.untold in
    later_released same.eq-value.it inside.limits.kept inside.given inside.contexts c.arrive_context.new.window inside.binding.line inside.told c.args.rec (Ok c.in-Ok.released) c.self.invariant.seen.contexts_seen untold
    c.in-Ok.ensures.takes c.in-Ok.ensures.size (grammar_of c.args.rec c.args.self.now.profile c.requires.grammar) (omega (arith, c.self.invariant.limits.least_kept)) c.in-Ok.ensures.falling c.in-Ok.released refl

pub give_context-requires-clause-room : goal.give_context-requires-clause-room
give_context-requires-clause-room c =
    let inside = c.self.inside in
    omega (arith, added_within inside.limits.kept inside.given inside.contexts inside.binding.line inside.told c.self.invariant.seen.contexts_seen, c.self.invariant.few)

pub invariant_of-self : goal.invariant_of-self
invariant_of-self c =
    let inside = c.self.inside in
    let old : BinderState = record { profile = inside.profile; limits = inside.limits; contexts = inside.contexts; packets = inside.packets; state = inside.binding; given = inside.given; told = inside.told } in
    let untold : inside.told ≡ false = ap (λ (b : BinderState). b.told) c.self.view_is ∙ c.requires.untold in
    let few : inside.given < 2 ^ 63 = omega (arith, ap (λ (b : BinderState). b.given) c.self.view_is, c.requires.few) in
    bound_context old c.self.invariant untold few c.arrive_context.new.window c.give_context.new.binding c.in-Ok.released c.give_context.ensures.state c.in-Ok.ensures.size
    (seen_context same.eq-value.it inside.limits.kept inside.given inside.contexts c.arrive_context.new.window inside.binding.line inside.told c.args.rec (Ok c.in-Ok.released) c.self.invariant.seen.contexts_seen untold
    c.in-Ok.ensures.takes c.in-Ok.ensures.size (grammar_of c.args.rec c.args.self.now.profile c.requires.grammar) c.in-Ok.released refl)

pub returns-in-Ok-clause-answer : goal.returns-in-Ok-clause-answer
returns-in-Ok-clause-answer c = λ calls taken h.
    let now = c.args.self.now in
    let inside = c.self.inside in
    let contexts : inside.contexts ≡ now.contexts = ap (λ (b : BinderState). b.contexts) c.self.view_is in
    let follows : Follows now.limits inside.contexts now.packets now.state now.told calls taken =
    subst (λ (w : Holding ContextRec). Follows now.limits w now.packets now.state now.told calls taken) (sym contexts) h in
    ap without_packet (answer_context same.eq-value.it now.limits inside.contexts c.arrive_context.new.window now.packets now.state now.state now.told c.args.rec (Ok c.in-Ok.released) c.requires.untold
    c.in-Ok.ensures.takes c.in-Ok.ensures.size calls taken follows)

pub returns-in-Ok-clause-stands : goal.returns-in-Ok-clause-stands
returns-in-Ok-clause-stands c = λ calls taken h.
    let inside = c.self.inside in
    let untold : inside.told ≡ false = ap (λ (b : BinderState). b.told) c.self.view_is ∙ c.requires.untold in
    let follows : Follows inside.limits inside.contexts inside.packets inside.binding inside.told calls taken =
    subst (λ (b : BinderState). StandsFor b calls taken) (sym c.self.view_is) h in
    follows_context same.eq-value.it inside.limits inside.contexts c.arrive_context.new.window inside.packets inside.binding c.give_context.new.binding inside.told c.args.rec (Ok c.in-Ok.released) untold
    c.in-Ok.ensures.takes c.in-Ok.ensures.size calls taken follows (released_list c.in-Ok.released) refl
    (λ events s. c.give_context.ensures.history inside.limits events taken s)

same_contexts : (c : goal.In-Err) → c.arrive_context.new.window ≡ c.self.inside.contexts
same_contexts c =
    let inside = c.self.inside in
    let untold : inside.told ≡ false = ap (λ (b : BinderState). b.told) c.self.view_is ∙ c.requires.untold in
    turned_context same.eq-value.it inside.limits.kept inside.given inside.contexts c.arrive_context.new.window inside.binding.line inside.told c.args.rec (Err (c.in-Err.turned, c.in-Err.field-0-1)) c.self.invariant.seen.contexts_seen untold
    c.in-Err.ensures.takes c.in-Err.ensures.size (grammar_of c.args.rec c.args.self.now.profile c.requires.grammar) (c.in-Err.turned, c.in-Err.field-0-1) refl

pub invariant_of-self-in-Err : goal.invariant_of-self-in-Err
invariant_of-self-in-Err c =
    let inside = c.self.inside in
    subst (λ (w : Holding ContextRec). IsBinderState (record { profile = inside.profile; limits = inside.limits; contexts = w; packets = inside.packets; state = inside.binding; given = inside.given; told = inside.told }))
    (sym (same_contexts c)) c.self.invariant

pub returns-in-Err-clause-answer : goal.returns-in-Err-clause-answer
returns-in-Err-clause-answer c = λ calls taken h.
    let now = c.args.self.now in
    let inside = c.self.inside in
    let contexts : inside.contexts ≡ now.contexts = ap (λ (b : BinderState). b.contexts) c.self.view_is in
    let follows : Follows now.limits inside.contexts now.packets now.state now.told calls taken =
    subst (λ (w : Holding ContextRec). Follows now.limits w now.packets now.state now.told calls taken) (sym contexts) h in
    ap without_packet (answer_context same.eq-value.it now.limits inside.contexts c.arrive_context.new.window now.packets now.state now.state now.told c.args.rec (Err (c.in-Err.turned, c.in-Err.field-0-1)) c.requires.untold
    c.in-Err.ensures.takes c.in-Err.ensures.size calls taken follows)

pub returns-in-Err-clause-stands : goal.returns-in-Err-clause-stands
returns-in-Err-clause-stands c = λ calls taken h.
    let inside = c.self.inside in
    let untold : inside.told ≡ false = ap (λ (b : BinderState). b.told) c.self.view_is ∙ c.requires.untold in
    let follows : Follows inside.limits inside.contexts inside.packets inside.binding inside.told calls taken =
    subst (λ (b : BinderState). StandsFor b calls taken) (sym c.self.view_is) h in
    follows_context same.eq-value.it inside.limits inside.contexts c.arrive_context.new.window inside.packets inside.binding inside.binding inside.told c.args.rec (Err (c.in-Err.turned, c.in-Err.field-0-1)) untold
    c.in-Err.ensures.takes c.in-Err.ensures.size calls taken follows [] refl
    (λ events s. subst (λ (es : List Event). queue.StandsFor inside.binding inside.limits es taken) (sym (append-nil events)) s)

pub returns-in-Err-clause-err : goal.returns-in-Err-clause-err
returns-in-Err-clause-err c =
    let inside = c.self.inside in
    ap (λ (w : Holding ContextRec). same_but inside.profile inside.limits w inside.packets inside.binding inside.given inside.told) (same_contexts c) ∙ c.self.view_is
