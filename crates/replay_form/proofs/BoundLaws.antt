-- The limits of a field, and the rules of their four numbers as they stand in a header.
use Rattle.std.proofs.Common.{◌≡◌, ℕ, ◌-◌, ◌<◌, ◌^◌, Bool, true, false, if◌then◌else◌, ℤ, pos, negsuc, ◌≤ℤ◌, refl, sym, subst, inl, inr, zero, suc, arith}
use Rattle.std.proofs.lemmas.Int.{ints}
use Rattle.std.specs.Int.{w64}
use Rattle.std.specs.Int.RustNames.{FitsSigned}
use Rattle.vrt_fields.specs.declared.field.Field.{Field}
use Rattle.vrt_fields.specs.declared.field.Field.TheVariants.{ReferenceLevel, Gain, SampleRate}
use Rattle.vrt_fields.specs.declared.limit.Limit.{Limit}
use Rattle.vrt_fields.specs.Limit.{own_least, own_greatest, IsStepped, IsWithin, IsShut, IsLimit}
use Rattle.replay_form.specs.HeadFields.{IsHalf, IsStep, IsLeast, IsGreatest}
use Rattle.replay_form.specs.HeadValues.{limited_field}

-- the numbers of a limit obey the rules of their places
pub record IsBound (bound : ℕ) (limit : Limit) : Type 0 where
  pub step : IsStep (if limit.settable then 1 else 0) limit.step
  pub least : IsLeast bound (if limit.settable then 1 else 0) limit.step limit.least
  pub greatest : IsGreatest bound (if limit.settable then 1 else 0) limit.step limit.least limit.greatest
  pub least_fits : FitsSigned w64 limit.least
  pub greatest_fits : FitsSigned w64 limit.greatest

abbrev flag_of : Bool → ℕ
flag_of b = if b then 1 else 0

unset_is : (b : Bool) → flag_of b ≡ 0 → b ≡ false
unset_is false e = refl
unset_is true e = absurd (omega (arith, e))

set_is : (b : Bool) → flag_of b ≡ 1 → b ≡ true
set_is true e = refl
set_is false e = absurd (omega (arith, e))

is_unset : (b : Bool) → b ≡ false → flag_of b ≡ 0
is_unset b e = rw e refl

is_set : (b : Bool) → b ≡ true → flag_of b ≡ 1
is_set b e = rw e refl

≤ℤ-through : (a b c : ℤ) → a ≤ℤ b → b ≤ℤ c → a ≤ℤ c
≤ℤ-through a b c p q = grind (arith, ints, p, q)

least_own : (field : Field) → negsuc (2 ^ 63 - 1) ≤ℤ own_least field
least_own ReferenceLevel = omega arith
least_own Gain = omega arith
least_own SampleRate = omega arith
least_own field = omega arith

greatest_own : (field : Field) → own_greatest field ≤ℤ pos (2 ^ 63 - 1)
greatest_own ReferenceLevel = omega arith
greatest_own Gain = omega arith
greatest_own field = omega arith

fits_between : (n : ℤ) → negsuc (2 ^ 63 - 1) ≤ℤ n → n ≤ℤ pos (2 ^ 63 - 1) → FitsSigned w64 n
fits_between (pos n) p q = grind (arith, ints, q)
fits_between (negsuc n) p q = grind (arith, ints, p)

zero_fits : (n : ℤ) → n ≡ pos 0 → FitsSigned w64 n
zero_fits n e = subst (FitsSigned w64) (sym e) (fits_between (pos 0) (omega arith) (omega arith))

half_low : (bound : ℕ) (n : ℤ) → own_least (limited_field bound) ≤ℤ n → IsHalf bound → negsuc 32767 ≤ℤ n
half_low bound n h (inl e) = subst (λ b. own_least (limited_field b) ≤ℤ n) e h
half_low bound n h (inr e) = subst (λ b. own_least (limited_field b) ≤ℤ n) e h

half_high : (bound : ℕ) (n : ℤ) → n ≤ℤ own_greatest (limited_field bound) → IsHalf bound → n ≤ℤ pos 32767
half_high bound n h (inl e) = subst (λ b. n ≤ℤ own_greatest (limited_field b)) e h
half_high bound n h (inr e) = subst (λ b. n ≤ℤ own_greatest (limited_field b)) e h

fits_by : (b : Bool) (field : Field) (limit : Limit) → limit.settable ≡ b → IsLimit field limit → FitsSigned w64 limit.least × FitsSigned w64 limit.greatest
fits_by false field limit e h = let shut = h.shut e in (zero_fits limit.least shut.least, zero_fits limit.greatest shut.greatest)
fits_by true field limit e h =
    let within = h.within e in
    let low : negsuc (2 ^ 63 - 1) ≤ℤ limit.least = ≤ℤ-through _ _ _ (least_own field) within.not_below in
    let high : limit.greatest ≤ℤ pos (2 ^ 63 - 1) = ≤ℤ-through _ _ _ within.not_above (greatest_own field) in (
      fits_between limit.least low (≤ℤ-through _ _ _ within.in_order high),
      fits_between limit.greatest (≤ℤ-through _ _ _ low within.in_order) high,
    )

-- a limit of the field obeys them
pub bound_of_limit : (bound : ℕ) (limit : Limit) → IsLimit (limited_field bound) limit → IsBound bound limit
bound_of_limit bound limit h =
    let fits = fits_by limit.settable (limited_field bound) limit refl h in
    let shut : flag_of limit.settable ≡ 0 → IsShut limit = λ e. h.shut (unset_is limit.settable e) in
    let stepped : flag_of limit.settable ≡ 1 → IsStepped limit.step limit.least limit.greatest = λ e. h.stepped (set_is limit.settable e) in
    let within : flag_of limit.settable ≡ 1 → IsWithin (limited_field bound) limit.least limit.greatest = λ e. h.within (set_is limit.settable e) in
    record {
      step = record { unset = λ e. (shut e).step; least = λ e. (stepped e).some_step; most = λ e. (stepped e).most_step };
      least = record {
        unset = λ e. (shut e).least;
        multiple = λ e. (stepped e).from;
        half_from = λ e half. half_low bound limit.least (within e).not_below half;
        half_to = λ e half. ≤ℤ-through limit.least limit.greatest (pos 32767) (within e).in_order (half_high bound limit.greatest (within e).not_above half);
        rate = λ e six. subst (λ b. own_least (limited_field b) ≤ℤ limit.least) six (within e).not_below;
      };
      greatest = record {
        unset = λ e. (shut e).greatest;
        multiple = λ e. (stepped e).to;
        not_below = λ e. (within e).in_order;
        half_to = λ e half. half_high bound limit.greatest (within e).not_above half;
      };
      least_fits = fits.0;
      greatest_fits = fits.1;
    }

low_of : (n : ℤ) → FitsSigned w64 n → negsuc (2 ^ 63 - 1) ≤ℤ n
low_of (pos n) h = grind (arith, ints)
low_of (negsuc n) h = grind (arith, ints, h.sfits)

high_of : (n : ℤ) → FitsSigned w64 n → n ≤ℤ pos (2 ^ 63 - 1)
high_of (pos n) h = grind (arith, ints, h.sfits)
high_of (negsuc n) h = grind (arith, ints)

not_below : (bound flag step : ℕ) (least : ℤ) → bound < 7 → flag ≡ 1 → IsLeast bound flag step least → FitsSigned w64 least → own_least (limited_field bound) ≤ℤ least
not_below zero flag step least k e h fits = low_of least fits
not_below (suc zero) flag step least k e h fits = low_of least fits
not_below (suc (suc zero)) flag step least k e h fits = low_of least fits
not_below (suc (suc (suc zero))) flag step least k e h fits = low_of least fits
not_below (suc (suc (suc (suc zero)))) flag step least k e h fits = h.half_from e (inl refl)
not_below (suc (suc (suc (suc (suc zero))))) flag step least k e h fits = h.half_from e (inr refl)
not_below (suc (suc (suc (suc (suc (suc zero)))))) flag step least k e h fits = h.rate e refl
not_below (suc (suc (suc (suc (suc (suc (suc bound))))))) flag step least k e h fits = absurd (omega arith)

not_above : (bound flag step : ℕ) (least greatest : ℤ) → bound < 7 → flag ≡ 1 → IsGreatest bound flag step least greatest → FitsSigned w64 greatest → greatest ≤ℤ own_greatest (limited_field bound)
not_above zero flag step least greatest k e h fits = high_of greatest fits
not_above (suc zero) flag step least greatest k e h fits = high_of greatest fits
not_above (suc (suc zero)) flag step least greatest k e h fits = high_of greatest fits
not_above (suc (suc (suc zero))) flag step least greatest k e h fits = high_of greatest fits
not_above (suc (suc (suc (suc zero)))) flag step least greatest k e h fits = h.half_to e (inl refl)
not_above (suc (suc (suc (suc (suc zero))))) flag step least greatest k e h fits = h.half_to e (inr refl)
not_above (suc (suc (suc (suc (suc (suc zero)))))) flag step least greatest k e h fits = high_of greatest fits
not_above (suc (suc (suc (suc (suc (suc (suc bound))))))) flag step least greatest k e h fits = absurd (omega arith)

-- and what obeys them is a limit of the field
pub limit_of_bound : (bound : ℕ) (limit : Limit) → bound < 7 → IsBound bound limit → IsLimit (limited_field bound) limit
limit_of_bound bound limit k h =
    let flag : ℕ = flag_of limit.settable in
    record {
      shut = λ e. let f = is_unset limit.settable e in record { step = h.step.unset f; least = h.least.unset f; greatest = h.greatest.unset f };
      stepped = λ e. let f = is_set limit.settable e in record { some_step = h.step.least f; most_step = h.step.most f; from = h.least.multiple f; to = h.greatest.multiple f };
      within = λ e. let f = is_set limit.settable e in record {
        not_below = not_below bound flag limit.step limit.least k f h.least h.least_fits;
        in_order = h.greatest.not_below f;
        not_above = not_above bound flag limit.step limit.least limit.greatest k f h.greatest h.greatest_fits;
      };
    }
