use Rattle.std.proofs.Common.{◌≡◌, ◌++◌, ◌∷◌, [], false, sym, ap, ◌∙◌, subst}
use Rattle.sample_binder.specs.Binder.{BinderState, StandsFor, Follows}
use Rattle.sample_binder.specs.Calls.{EndCall}
use Rattle.sample_binder.proofs.NextLemmas.{may_drain_now, follows_told}
use Rattle.sample_binder.proofs.binder.Binder.end.Goals as goal

pub advance-requires-clause-contexts : goal.advance-requires-clause-contexts
advance-requires-clause-contexts c =
    let inside = c.self.inside in
    let old : BinderState = record { profile = inside.profile; limits = inside.limits; contexts = inside.contexts; packets = inside.packets; state = inside.binding; given = inside.given; told = inside.told } in
    may_drain_now old c.self.invariant

pub returns-clause-stands : goal.returns-clause-stands
returns-clause-stands c = λ calls taken h.
    let inside = c.self.inside in
    let untold : inside.told ≡ false = ap (λ (b : BinderState). b.told) c.self.view_is ∙ c.requires.untold in
    let follows : Follows inside.limits inside.contexts inside.packets inside.binding inside.told calls taken =
    subst (λ (b : BinderState). StandsFor b calls taken) (sym c.self.view_is) h in
    c.advance.ensures.drains.follows inside.limits (calls ++ EndCall ∷ []) taken
    (follows_told inside.limits inside.contexts inside.packets inside.binding inside.told calls taken untold (c.self.invariant.running untold) follows)
