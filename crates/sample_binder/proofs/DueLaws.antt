-- Laws of due events: what one more event changes.
use Rattle.std.proofs.Common.{◌≡◌, ◌⊎◌, ℕ, suc, zero, ◌+◌, ◌<◌, ◌≤◌, ◌&&◌, nat_le, Bool, true, false, cond, Option, Some, None, refl, sym, ap, ◌∙◌, subst, inl, inr, arith}
use Rattle.std.proofs.lemmas.Bool.Decides.{nat_tests}
use Rattle.sample_binder.specs.Due.{first_below, first_from, may_leave}
use Rattle.sample_binder.proofs.FirstLaws.{first_below-none, first_below-more, first_below-next, first_below-first, first_below-same}

abbrev from : ℕ → (ℕ → Bool) → ℕ → Bool
from d p e = nat_le d e && p e

there_is : (o : Option ℕ) → ((d : ℕ) × (o ≡ Some d)) ⊎ (o ≡ None)
there_is (Some d) = inl (d, refl)
there_is None = inr refl

from_below : (p : ℕ → Bool) (n d : ℕ) (o : Option ℕ) → first_from p n o ≡ Some d → d < n
from_below p n d None e = absurd (cc)
from_below p n d (Some d0) e = (first_below-first (from d0 p) n d e).below

from_more : (p : ℕ → Bool) (n d : ℕ) (o o' : Option ℕ) → ((k : ℕ) → o ≡ Some k → o' ≡ Some k) → first_from p n o ≡ Some d → first_from p (suc n) o' ≡ Some d
from_more p n d None o' h e = absurd (cc)
from_more p n d (Some d0) o' h e = ap (first_from p (suc n)) (h d0 refl) ∙ first_below-more (from d0 p) n d e

from_same : (p q : ℕ → Bool) (n : ℕ) (o : Option ℕ) → ((k : ℕ) → k < n → p k ≡ q k) → first_from p n o ≡ first_from q n o
from_same p q n None h = refl
from_same p q n (Some d) h = first_below-same (from d p) (from d q) n (λ k lt. ap (λ b. nat_le d k && b) (h k lt))

too_early : (n : ℕ) (p : ℕ → Bool) (k : ℕ) → k < n → from n p k ≡ false
too_early n p k lt = grind (arith, nat_tests)

in_time : (d n : ℕ) (p : ℕ → Bool) → d ≤ n → from d p n ≡ p n
in_time d n p le = grind (arith, nat_tests)

chosen : (b : Bool) (n d : ℕ) → cond b (Some n) None ≡ Some d → n ≡ d
chosen true n d e = cc
chosen false n d e = absurd (cc)

-- where none was found from d on, the next number decides
next_from : (p : ℕ → Bool) (n d : ℕ) → d ≤ n → first_below (from d p) n ≡ None → first_below (from d p) (suc n) ≡ cond (p n) (Some n) None
next_from p n d le e = first_below-next (from d p) n e ∙ ap (λ b. cond b (Some n) None) (in_time d n p le)

module _ (passes : ℕ → ℕ → Bool) (n : ℕ) where
  -- a packet may leave from an event on that has come
  pub may_leave-within : (j d : ℕ) → may_leave passes n j ≡ Some d → d ≤ n
  may_leave-within zero d e = let same : 0 ≡ d = cc in omega arith
  may_leave-within (suc j) d e = let lt = from_below (passes j) n d (may_leave passes n j) e in omega arith

  pub may_leave-below : (j d : ℕ) → may_leave passes n (suc j) ≡ Some d → d < n
  may_leave-below j d e = from_below (passes j) n d (may_leave passes n j) e

  -- what is so after n events stays so
  pub may_leave-more : (j d : ℕ) → may_leave passes n j ≡ Some d → may_leave passes (suc n) j ≡ Some d
  may_leave-more zero d e = e
  may_leave-more (suc j) d e = from_more (passes j) n d (may_leave passes n j) (may_leave passes (suc n) j) (λ k f. may_leave-more j k f) e

  pub may_leave-none : (j : ℕ) → may_leave passes n j ≡ None → may_leave passes n (suc j) ≡ None
  may_leave-none j e = ap (first_from (passes j) n) e

  -- from where packet j may leave, if it was not due before event n
  found_next : (j d : ℕ) → may_leave passes n (suc j) ≡ None → may_leave passes (suc n) j ≡ Some d
      → ((k : ℕ) → may_leave passes n j ≡ None → may_leave passes (suc n) j ≡ Some k → k ≡ n) → (d ≤ n) × (first_below (from d (passes j)) n ≡ None)
  found_next j d e f new = elim (there_is (may_leave passes n j)) [
    | inl old ↦
        let same : old.0 ≡ d = cc (may_leave-more j old.0 old.1) in
        (subst (λ (k : ℕ). k ≤ n) same (may_leave-within j old.0 old.1), subst (λ (k : ℕ). first_below (from k (passes j)) n ≡ None) same (sym (ap (first_from (passes j) n) old.1) ∙ e))
    | inr none ↦
        let same : d ≡ n = new d none f in
        (omega arith, subst (λ (k : ℕ). first_below (from k (passes j)) n ≡ None) (sym same) (first_below-none (from n (passes j)) n (too_early n (passes j))))
  ]

  -- what is new is from event n on
  pub may_leave-new : (j d : ℕ) → may_leave passes n j ≡ None → may_leave passes (suc n) j ≡ Some d → d ≡ n
  may_leave-new zero d e f = absurd (cc)
  may_leave-new (suc j) d e f = elim (there_is (may_leave passes (suc n) j)) [
    | inl old ↦
        let h = found_next j old.0 e old.1 (λ k a b. may_leave-new j k a b) in
        let g : first_below (from old.0 (passes j)) (suc n) ≡ Some d = sym (ap (first_from (passes j) (suc n)) old.1) ∙ f in
        sym (chosen (passes j n) n d (sym (next_from (passes j) n old.0 h.0 h.1) ∙ g))
    | inr none ↦ absurd (cc)
  ]

  -- a packet that was not due before event n, and may be due at it, is so where it passes there
  pub may_leave-next : (j d : ℕ) → may_leave passes n (suc j) ≡ None → may_leave passes (suc n) j ≡ Some d → may_leave passes (suc n) (suc j) ≡ cond (passes j n) (Some n) None
  may_leave-next j d e f =
      let h = found_next j d e f (λ k a b. may_leave-new j k a b) in
      ap (first_from (passes j) (suc n)) f ∙ next_from (passes j) n d h.0 h.1

  -- tests that agree on the n events
  pub may_leave-same : (others : ℕ → ℕ → Bool) → ((j k : ℕ) → k < n → passes j k ≡ others j k) → (j : ℕ) → may_leave passes n j ≡ may_leave others n j
  may_leave-same others h zero = refl
  may_leave-same others h (suc j) =
      ap (first_from (passes j) n) (may_leave-same others h j) ∙ from_same (passes j) (others j) n (may_leave others n j) (h j)

  -- none behind one that is not due
  pub may_leave-none_behind : (m j : ℕ) → may_leave passes n j ≡ None → may_leave passes n (j + m) ≡ None
  may_leave-none_behind zero j e = let same : j + 0 ≡ j = omega arith in ap (may_leave passes n) same ∙ e
  may_leave-none_behind (suc m) j e =
      let same : j + suc m ≡ suc (j + m) = omega arith in
      ap (may_leave passes n) same ∙ may_leave-none (j + m) (may_leave-none_behind m j e)
