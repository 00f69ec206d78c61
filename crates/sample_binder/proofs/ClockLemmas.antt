-- Whether a sample is captured before a moment, by products alone.
use Rattle.std.proofs.Common.{◌≡◌, ℕ, ◌+◌, ◌*◌, ◌/◌, ◌<◌, ◌≤◌, nat_lt, true, false, inl, inr, arith, sym, ◌∙◌}
use Rattle.std.proofs.lemmas.Bool.{cases_lt}
use Rattle.std.proofs.lemmas.Bool.Decides.{nat_tests}
use Rattle.std.proofs.Math.Nat.{div-lt_iff_lt-mul}

is_lt : (a b : ℕ) → a < b → nat_lt a b ≡ true
is_lt a b h = grind (arith, nat_tests)

not_lt : (a b : ℕ) → b ≤ a → nat_lt a b ≡ false
not_lt a b h = grind (arith, nat_tests)

-- a part of a period comes so long after the start
pub lt_by_product : (start end after part rate : ℕ) → end ≡ start + after → 0 < rate
    → nat_lt part (after * rate) ≡ nat_lt (start + part / rate) end
lt_by_product start end after part rate e some =
    let both = div-lt_iff_lt-mul {k = rate} {x = part} {y = after} some in
    elim (cases_lt part (after * rate)) [
      | inl lt ↦
          let sooner : part / rate < after = both.1 lt in
          is_lt part (after * rate) lt ∙ sym (is_lt (start + part / rate) end (omega arith))
      | inr ge ↦ elim (cases_lt (part / rate) after) [
        | inl sooner ↦ let lt : part < after * rate = both.0 sooner in absurd (omega arith)
        | inr later ↦ not_lt part (after * rate) ge ∙ sym (not_lt (start + part / rate) end (omega arith))
      ]
    ]

pub not_before : (start end part : ℕ) → end ≤ start → false ≡ nat_lt (start + part) end
not_before start end part h = sym (not_lt (start + part) end (omega arith))
