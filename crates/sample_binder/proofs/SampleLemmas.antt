-- How many samples a payload has, as a number and as a relation.
use Rattle.std.proofs.Common.{◌≡◌, ℕ, ◌*◌, ◌/◌, ◌%◌, ◌<◌, ◌==◌, ◌&&◌, nat_lt, Bool, true, false, cond, Option, Some, None, IfSome, IfNone, refl, sym, ap, ◌∙◌, inl, inr, arith}
use Rattle.std.proofs.lemmas.Grind.{common_steps}
use Rattle.std.proofs.lemmas.Bool.Decides.{nat_tests}
use Rattle.sample_binder.proofs.Cases.{tested}
use Rattle.sample_unpack.specs.Count.{HoldsSamples}
use Rattle.sample_binder.specs.declared.sampling.Shape.{Shape}
use Rattle.sample_binder.specs.Samples.{number_of, used_bits}

held_test : (used size count : ℕ) → 0 < size → 0 < count → used ≡ size * count → (nat_lt 0 used && used % size == 0) ≡ true
held_test used size count s some e = grind (arith, common_steps, nat_tests)

held_count : (used size count : ℕ) → 0 < size → used ≡ size * count → used / size ≡ count
held_count used size count s e = grind (arith, common_steps)

untested : (used size : ℕ) → (nat_lt 0 used && used % size == 0) ≡ true → (0 < used) × (used % size ≡ 0)
untested used size e = grind (arith, nat_tests)

whole : (used size : ℕ) → 0 < size → 0 < used → used % size ≡ 0 → (0 < used / size) × (size * (used / size) ≡ used)
whole used size s some e = grind (arith, common_steps)

-- where it holds so many samples
pub number_of-held : (shape : Shape) (bits count : ℕ) → 0 < bits → HoldsSamples shape.words shape.pad bits count → number_of shape bits ≡ Some count
number_of-held shape bits count b h =
    let used : used_bits shape ≡ 2 * bits * count = omega (arith, h.exact) in
    let test = held_test (used_bits shape) (2 * bits) count (omega arith) h.some used in
    let same = held_count (used_bits shape) (2 * bits) count (omega arith) used in
    ap (λ b. cond b (Some (used_bits shape / (2 * bits))) None) test ∙ ap Some same

-- where it holds none
pub number_of-none : (shape : Shape) (bits : ℕ) → 0 < bits → ((count : ℕ) → ¬ HoldsSamples shape.words shape.pad bits count) → number_of shape bits ≡ None
number_of-none shape bits b h =
    let test = nat_lt 0 (used_bits shape) && used_bits shape % (2 * bits) == 0 in
    elim (tested test) [
      | inl e ↦
          let p = untested (used_bits shape) (2 * bits) e in
          let w = whole (used_bits shape) (2 * bits) (omega arith) p.0 p.1 in
          absurd (h (used_bits shape / (2 * bits)) (record { some = w.0; exact = omega arith }))
      | inr e ↦ ap (λ b. cond b (Some (used_bits shape / (2 * bits))) None) e
    ]

pub number_told : (shape : Shape) (bits : ℕ) (o : Option ℕ) → 0 < bits → IfSome o (HoldsSamples shape.words shape.pad bits) → IfNone o ((count : ℕ) → ¬ HoldsSamples shape.words shape.pad bits count)
    → o ≡ number_of shape bits
number_told shape bits None b some none = sym (number_of-none shape bits b none)
number_told shape bits (Some count) b some none = sym (number_of-held shape bits count b some)

pub number_some : (shape : Shape) (bits : ℕ) (o : Option ℕ) → IfSome o (HoldsSamples shape.words shape.pad bits) → IfSome o (λ n. 0 < n)
number_some shape bits None some = tt
number_some shape bits (Some count) some = some.some

counted : (b : Bool) (m n : ℕ) → cond b (Some m) None ≡ Some n → (b ≡ true) × (m ≡ n)
counted true m n e = (refl, (cc))
counted false m n e = absurd (cc)

-- there is one sample at least
pub number_positive : (shape : Shape) (bits n : ℕ) → 0 < bits → number_of shape bits ≡ Some n → 0 < n
number_positive shape bits n b e =
    let used = used_bits shape in
    let h = counted (nat_lt 0 used && used % (2 * bits) == 0) (used / (2 * bits)) n e in
    let p = untested used (2 * bits) h.0 in
    let w = whole used (2 * bits) (omega arith) p.0 p.1 in
    omega (arith, w.0, h.1)

-- their bits are all that are used
pub number_exact : (shape : Shape) (bits n : ℕ) → 0 < bits → number_of shape bits ≡ Some n → 2 * bits * n ≡ used_bits shape
number_exact shape bits n b e =
    let used = used_bits shape in
    let h = counted (nat_lt 0 used && used % (2 * bits) == 0) (used / (2 * bits)) n e in
    let p = untested used (2 * bits) h.0 in
    let w = whole used (2 * bits) (omega arith) p.0 p.1 in
    ap (λ k. 2 * bits * k) (sym h.1) ∙ w.1
