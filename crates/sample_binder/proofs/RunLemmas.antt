-- A stretch that is told is the first of those that are left.
use Rattle.std.proofs.Common.{◌≡◌, ℕ, suc, zero, ◌+◌, ◌-◌, ◌<◌, ◌≤◌, ◌&&◌, not, nat_lt, Bool, true, false, cond, ◌∷◌, map, Some, None, IfSome, refl, sym, ap, ◌∙◌, inl, inr, arith}
use Rattle.std.proofs.lemmas.Bool.Decides.{nat_tests}
use Rattle.std.proofs.lemmas.Bool.{cases_lt}
use Rattle.context_timeline.specs.State.{TimelineState}
use Rattle.sample_binder.specs.declared.label.Label.{Label}
use Rattle.sample_binder.specs.declared.give.Leaving.TheVariants as leaving
use Rattle.sample_binder.specs.declared.reason.Reason.{Reason}
use Rattle.sample_binder.specs.declared.sampling.Sampled.{Sampled}
use Rattle.sample_binder.specs.Runs.{same_label, label_at, starts, or_all, next_start, cut_from, run_at}
use Rattle.sample_binder.proofs.LabelLemmas.{same_as}
use Rattle.sample_binder.specs.Left.{runs_left, runs_left_of, rest_from, IsLeaving}
use Rattle.sample_binder.specs.Sound.{HasSampling}
use Rattle.sample_binder.specs.Stretches.{IsStretch}
use Rattle.sample_binder.proofs.FirstLaws.{first_below-is, first_below-none}

module _ (labels : ℕ → Label) (number first : ℕ) (label : Label) (end : ℕ) (h : IsStretch labels number first label end) where
  -- none starts behind the first and in front of the end
  no_start : (k : ℕ) → first < k → k < end → starts labels k ≡ false
  no_start zero lt le = absurd (omega arith)
  no_start (suc k) lt le =
      let here = h.alike k (omega arith) (omega arith) in
      let next = h.alike (suc k) (omega arith) le in
      ap not (sym (same_as label (labels k) (labels (suc k)) here) ∙ next)

  -- one starts at the end, where there is a sample
  end_starts : (k : ℕ) → k ≡ end → end < number → starts labels k ≡ true
  end_starts zero e lt = absurd (omega (arith, h.some))
  end_starts (suc k) e lt =
      let here = h.alike k (omega (arith, h.some)) (omega arith) in
      let other : same_label label (labels (suc k)) ≡ false = elim h.ends [ inl all ↦ absurd (omega arith) | inr off ↦ ap (λ n. same_label label (labels n)) e ∙ off ] in
      ap not (sym (same_as label (labels k) (labels (suc k)) here) ∙ other)

  behind : (k : ℕ) → k < end → (nat_lt first k && starts labels k) ≡ false
  behind k lt = elim (cases_lt first k) [
    | inl above ↦ let off = no_start k above lt in grind (arith, nat_tests)
    | inr le ↦ grind (arith, nat_tests)
  ]

  at_end : end < number → (nat_lt first end && starts labels end) ≡ true
  at_end lt = let on = end_starts end refl lt in let some = h.some in grind (arith, nat_tests)

  next_is : next_start labels number first ≡ end
  next_is = elim (cases_lt end number) [
    | inl lt ↦ ap (or_all number) (first_below-is (λ k. nat_lt first k && starts labels k) number end lt behind (at_end lt))
    | inr le ↦
        let e : number ≡ end = omega (arith, h.within) in
        ap (or_all number) (first_below-none (λ k. nat_lt first k && starts labels k) number (λ k lt. behind k (omega arith))) ∙ e
  ]

-- where none starts, nothing is cut
skip : (labels : ℕ → Label) (number j m n total : ℕ) → total ≡ j + n → ((k : ℕ) → m ≤ k → k < m + j → starts labels k ≡ false)
    → cut_from labels number m total ≡ cut_from labels number (m + j) n
skip labels number zero m n total e h =
    let same : m ≡ m + 0 = omega arith in
    let count : total ≡ n = omega arith in
    ap (λ t. cut_from labels number m t) count ∙ ap (λ k. cut_from labels number k n) same
skip labels number (suc j) m n zero e h = absurd (omega arith)
skip labels number (suc j) m n (suc total) e h =
    let off = h m (omega arith) (omega arith) in
    let on : suc m + j ≡ m + suc j = omega arith in
    ap (λ b. cond b ((m, next_start labels number m - m) ∷ cut_from labels number (suc m) total) (cut_from labels number (suc m) total)) off
    ∙ skip labels number j (suc m) n total (omega arith) (λ k ge lt. h k (omega arith) (omega arith)) ∙ ap (λ k. cut_from labels number k n) on

-- what is left from a start on is its stretch, and what is left behind it
pub cut_first : (labels : ℕ → Label) (number first : ℕ) (label : Label) (end n : ℕ) → IsStretch labels number first label end → starts labels first ≡ true → n ≡ number - first
    → cut_from labels number first n ≡ (first, end - first) ∷ cut_from labels number end (number - end)
cut_first labels number first label end zero h start e = absurd (omega (arith, h.some, h.within))
cut_first labels number first label end (suc n) h start e =
    let next = next_is labels number first label end h in
    let at : suc first + (end - suc first) ≡ end = omega (arith, h.some) in
    let rest = skip labels number (end - suc first) (suc first) (number - end) n (omega (arith, h.some, h.within)) (λ k ge lt. no_start labels number first label end h k (omega arith) (omega (arith, h.some))) in
    ap (λ b. cond b ((first, next_start labels number first - first) ∷ cut_from labels number (suc first) n) (cut_from labels number (suc first) n)) start
    ∙ ap (λ m. (first, m - first) ∷ cut_from labels number (suc first) n) next
    ∙ ap (λ xs. (first, end - first) ∷ xs) (rest ∙ ap (λ k. cut_from labels number k (number - end)) at)

module _ (line : TimelineState) (why : Reason) (samples : Sampled) where
  abbrev labels_of : ℕ → Label
  labels_of = label_at line why samples.stamp samples.fields

  rest_told : (end : ℕ) → (b : Bool) → (b ≡ false → samples.number ≤ end)
      → map (run_at line why samples.stamp samples.fields) (cut_from labels_of samples.number end (samples.number - end))
      ≡ runs_left_of line why (cond b (Some (leaving.Cut samples end)) None)
  rest_told end true h = refl
  rest_told end false h =
      let none : samples.number - end ≡ 0 = omega (arith, h refl) in
      ap (λ n. map (run_at line why samples.stamp samples.fields) (cut_from labels_of samples.number end n)) none

  not_lt : (a b : ℕ) → nat_lt a b ≡ false → b ≤ a
  not_lt a b e = grind (arith, nat_tests)

  is_lt : (a b : ℕ) → nat_lt a b ≡ true → a < b
  is_lt a b e = grind (arith, nat_tests)

  -- the first run, and what is left
  pub first_run : (first end : ℕ) (label : Label) → IsStretch labels_of samples.number first label end → starts labels_of first ≡ true
      → runs_left line why (leaving.Cut samples first) ≡ run_at line why samples.stamp samples.fields (first, end - first) ∷ runs_left_of line why (rest_from samples end)
  first_run first end label h start =
      ap (map (run_at line why samples.stamp samples.fields)) (cut_first labels_of samples.number first label end (samples.number - first) h start refl)
      ∙ ap (λ xs. run_at line why samples.stamp samples.fields (first, end - first) ∷ xs) (rest_told end (nat_lt end samples.number) (not_lt end samples.number))

  rest_fine : (first end : ℕ) (label : Label) → IsStretch labels_of samples.number first label end → HasSampling samples.fields → (b : Bool) → (b ≡ true → end < samples.number)
      → IfSome (cond b (Some (leaving.Cut samples end)) None) (IsLeaving line why)
  rest_fine first end label h sampling true lt =
      record { sampling = sampling; there = lt refl; start = end_starts labels_of samples.number first label end h end refl (lt refl) }
  rest_fine first end label h sampling false lt = tt

  pub rest_leaves : (first end : ℕ) (label : Label) → IsStretch labels_of samples.number first label end → HasSampling samples.fields
      → IfSome (rest_from samples end) (IsLeaving line why)
  rest_leaves first end label h sampling = rest_fine first end label h sampling (nat_lt end samples.number) (is_lt end samples.number)
