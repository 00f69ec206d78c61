-- Laws of the least number that passes.
use Rattle.std.proofs.Common.{◌≡◌, ℕ, suc, zero, ◌<◌, Bool, true, false, cond, Option, Some, None, refl, sym, ap, ◌∙◌, subst, inl, inr, arith}
use Rattle.std.proofs.lemmas.Bool.{cases_lt}
use Rattle.sample_binder.specs.Due.{first_below}

-- the one at n, where none is below it
abbrev or_here : Option ℕ → Bool → ℕ → Option ℕ
or_here (Some k) passes n = Some k
or_here None passes n = cond passes (Some n) None

step : (p : ℕ → Bool) (n : ℕ) (o : Option ℕ) → first_below p n ≡ o → first_below p (suc n) ≡ or_here o (p n) n
step p n o e = grind arith

-- none passes
pub first_below-none : (p : ℕ → Bool) (n : ℕ) → ((k : ℕ) → k < n → p k ≡ false) → first_below p n ≡ None
first_below-none p zero h = refl
first_below-none p (suc n) h =
    step p n None (first_below-none p n (λ k lt. h k (omega arith))) ∙ ap (λ b. cond b (Some n) None) (h n (omega arith))

-- none below d passes, and d does
pub first_below-is : (p : ℕ → Bool) (n d : ℕ) → d < n → ((k : ℕ) → k < d → p k ≡ false) → p d ≡ true → first_below p n ≡ Some d
first_below-is p zero d lt h e = absurd (omega arith)
first_below-is p (suc n) d lt h e = elim (cases_lt d n) [
  | inl below ↦ step p n (Some d) (first_below-is p n d below h e)
  | inr le ↦
      let same : n ≡ d = omega arith in
      step p n None (first_below-none p n (λ k less. h k (omega arith))) ∙ ap (λ b. cond b (Some n) None) (ap p same ∙ e) ∙ ap Some same
]

-- one that is found stays found
pub first_below-more : (p : ℕ → Bool) (n d : ℕ) → first_below p n ≡ Some d → first_below p (suc n) ≡ Some d
first_below-more p n d e = step p n (Some d) e

-- where none is found yet, the next number decides
pub first_below-next : (p : ℕ → Bool) (n : ℕ) → first_below p n ≡ None → first_below p (suc n) ≡ cond (p n) (Some n) None
first_below-next p n e = step p n None e

here_below : (b : Bool) (n d : ℕ) → cond b (Some n) None ≡ Some d → (b ≡ true) × (n ≡ d)
here_below true n d e = (refl, (cc))
here_below false n d e = absurd (cc)

-- what is found passes, is below n, and none below it passes
pub record IsFirst (p : ℕ → Bool) (n d : ℕ) : Type 0 where
  pub below : d < n
  pub passes : p d ≡ true
  pub least : (k : ℕ) → k < d → p k ≡ false

not_here : (b : Bool) (n : ℕ) → cond b (Some n) None ≡ None → b ≡ false
not_here true n e = absurd (cc)
not_here false n e = refl

-- none passes where none is found
none_here : (p : ℕ → Bool) (n : ℕ) (o : Option ℕ) → or_here o (p n) n ≡ None → (o ≡ None) × (p n ≡ false)
none_here p n (Some k) e = absurd (cc)
none_here p n None e = (refl, not_here (p n) n e)

pub first_below-none_passes : (p : ℕ → Bool) (n : ℕ) → first_below p n ≡ None → (k : ℕ) → k < n → p k ≡ false
first_below-none_passes p zero e k lt = absurd (omega arith)
first_below-none_passes p (suc n) e k lt =
    let h = none_here p n (first_below p n) (sym (step p n (first_below p n) refl) ∙ e) in
    elim (cases_lt k n) [
      | inl less ↦ first_below-none_passes p n h.0 k less
      | inr le ↦ let same : n ≡ k = omega arith in sym (ap p same) ∙ h.1
    ]

found_here : (p : ℕ → Bool) (n : ℕ) (o : Option ℕ) (d : ℕ) → first_below p n ≡ o → ((k : ℕ) → o ≡ Some k → IsFirst p n k) → or_here o (p n) n ≡ Some d → IsFirst p (suc n) d
found_here p n (Some k) d e h f =
    let r = h k refl in
    let same : k ≡ d = cc in
    subst (λ (m : ℕ). IsFirst p (suc n) m) same (record { below = omega (arith, r.below); passes = r.passes; least = r.least })
found_here p n None d e h f =
    let r = here_below (p n) n d f in
    subst (λ (m : ℕ). IsFirst p (suc n) m) r.1 (record { below = omega arith; passes = r.0; least = first_below-none_passes p n e })

pub first_below-first : (p : ℕ → Bool) (n d : ℕ) → first_below p n ≡ Some d → IsFirst p n d
first_below-first p zero d e = absurd (cc)
first_below-first p (suc n) d e =
    found_here p n (first_below p n) d refl (λ k f. first_below-first p n k f) (sym (step p n (first_below p n) refl) ∙ e)

-- tests that agree below n find the same
pub first_below-same : (p q : ℕ → Bool) (n : ℕ) → ((k : ℕ) → k < n → p k ≡ q k) → first_below p n ≡ first_below q n
first_below-same p q zero h = refl
first_below-same p q (suc n) h =
    let rest = first_below-same p q n (λ k lt. h k (omega arith)) in
    step p n (first_below q n) rest ∙ ap (λ b. or_here (first_below q n) b n) (h n (omega arith)) ∙ sym (step q n (first_below q n) refl)
