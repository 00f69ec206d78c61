-- What is drawn where a binder owes nothing.
use Rattle.std.proofs.Common.{◌≡◌, ℕ, slice_set, Option, Some, None, refl, sym, ap, ◌∙◌}
use Rattle.std.proofs.lemmas.List.{set-get_or}
use Rattle.std.proofs.lemmas.Option.{get_or_from_slice_get}
use Rattle.sample_binder.specs.declared.out.Out.{Out}
use Rattle.sample_binder.specs.declared.out.Out.TheVariants as out
use Rattle.difi_gateway.specs.State.{Gated}
use Rattle.difi_gateway.specs.Drawing.{IsDrawn, IsGivenBy, drawn_as, drawn_from}
use Rattle.difi_gateway.specs.declared.drawn.Drawn.TheVariants as drawn

-- the output was none
no_output : (given : Option Out) → drawn.Nothing ≡ drawn_as given → given ≡ None
no_output None e = refl
no_output (Some (out.Packet buf lost)) e = absurd (cc)
no_output (Some (out.Run run)) e = absurd (cc)

pub given_none : (index : ℕ) (old new : Gated) (d : IsDrawn index drawn.Nothing old new) → d.given ≡ None
given_none index old new d = no_output d.given d.result_is

-- and the gateway is as it was
pub drew_nothing : (index : ℕ) (old new : Gated) → IsDrawn index drawn.Nothing old new → new ≡ old
drew_nothing index old new d =
    let none = given_none index old new d in
    d.after ∙ ap (drawn_from (record old { binders = slice_set old.binders index d.now }) index) none
    ∙ ap (λ bs. record old { binders = bs })
    (ap (slice_set old.binders index) (unchanged d.given none d.by ∙ sym (get_or_from_slice_get old.binders index d.was d.was d.there)) ∙ set-get_or old.binders index d.was) where
      unchanged : (given : Option Out) → given ≡ None → IsGivenBy given d.was d.now → d.now ≡ d.was
      unchanged None e by = by.none
      unchanged (Some o) e by = absurd (cc)
