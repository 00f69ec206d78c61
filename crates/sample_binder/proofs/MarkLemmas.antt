-- What the marks tell where the contexts are in the grammar.
use Rattle.std.proofs.Common.{◌≡◌, ℕ, suc, zero, ◌+◌, ◌-◌, ◌<◌, ◌≤◌, ◌==◌, ◌||◌, nat_le, nat_lt, Bool, true, false, cond, List, [], ◌∷◌, length, get_or, slice_get, Option, Some, None, IfSome, option_map, refl, sym, ap, ◌∙◌, inl, inr, arith}
use Rattle.std.proofs.lemmas.Bool.Decides.{nat_tests}
use Rattle.std.proofs.lemmas.Bool.{cases_lt}
use Rattle.std.proofs.lemmas.Option.{slice_get_cases}
use Rattle.std.specs.List.{AllByRecursion}
use Rattle.vrt_time.specs.Time.{TimeStamp, moment_of}
use Rattle.context_timeline.specs.declared.timed_context.TimedContext.{TimedContext}
use Rattle.context_timeline.specs.declared.mark.Mark.{Mark}
use Rattle.context_timeline.specs.declared.mark.Mark.TheVariants as mark
use Rattle.context_timeline.specs.State.{TimelineState, horizon_of, moments}
use Rattle.context_timeline.proofs.StateLaws.{moment_at}
use Rattle.context_timeline.specs.Marks.{last_below, last_not_after, healed, mark_between, mark_below, mark_in, is_below}
use Rattle.vrt_fields.specs.FieldWords.{AreFields}
use Rattle.sample_binder.specs.Sound.{HasSampling}

-- the fields of a context in the grammar
pub record AreSoundFields (fields : List ℕ) : Type 0 where
  pub are : AreFields fields
  pub sampling : HasSampling fields

-- such a context, before which at most fifteen were lost
pub record IsSoundContext (context : TimedContext) : Type 0 where
  pub fields : AreSoundFields context.fields
  pub lost : context.lost ≤ 15

abbrev pub IsSoundMark : Mark → Type 0
IsSoundMark mark.Open = Unit {0}
IsSoundMark mark.BeforeFirst = Unit {0}
IsSoundMark mark.TimelineFull = Unit {0}
IsSoundMark (mark.Lost lost) = (1 ≤ lost) × (lost ≤ 15)
IsSoundMark (mark.Bound place fields) = AreSoundFields fields

not_zero : (n : ℕ) (h : Bool) → (n == 0 || h) ≡ false → 1 ≤ n
not_zero n h e = grind (arith, nat_tests)

pair_sound : (place : ℕ) (a b : TimedContext) → IsSoundContext a → IsSoundContext b → (whole : Bool) → (b.lost == 0 || healed a b) ≡ whole
    → IsSoundMark (cond whole (mark.Bound place a.fields) (mark.Lost b.lost))
pair_sound place a b p q true e = p.fields
pair_sound place a b p q false e = (not_zero b.lost (healed a b) e, q.lost)

between_sound : (place : ℕ) (o p : Option TimedContext) → IfSome o IsSoundContext → IfSome p IsSoundContext → IsSoundMark (mark_between place o p)
between_sound place (Some a) (Some b) h k = pair_sound place a b h k (b.lost == 0 || healed a b) refl
between_sound place (Some a) None h k = tt
between_sound place None (Some b) h k = tt
between_sound place None None h k = tt

-- what is true of each item is true of one
pub each_at : {X : Type 0} (P : X → Type 0) (xs : List X) (k : ℕ) → AllByRecursion P xs → IfSome (slice_get xs k) P
each_at P [] zero h = tt
each_at P [] (suc k) h = tt
each_at P (x ∷ xs) zero h = h.0
each_at P (x ∷ xs) (suc k) h = each_at P xs k h.1

before_sound : (full : Bool) → IsSoundMark (cond full mark.TimelineFull mark.BeforeFirst)
before_sound true = tt
before_sound false = tt

below_sound : (line : TimelineState) (o : Option ℕ) → AllByRecursion IsSoundContext line.kept → IsSoundMark (mark_below line o)
below_sound line None h = before_sound (nat_lt line.limit line.added)
below_sound line (Some k) h =
    between_sound (line.added - length line.kept + k) (slice_get line.kept k) (slice_get line.kept (k + 1))
    (each_at IsSoundContext line.kept k h) (each_at IsSoundContext line.kept (k + 1) h)

chosen_sound : (below : Bool) (m : Mark) → IsSoundMark m → IsSoundMark (cond below m mark.Open)
chosen_sound true m h = h
chosen_sound false m h = tt

-- a mark tells what is true of the kept contexts
pub mark_sound : (line : TimelineState) (t : ℕ) → AllByRecursion IsSoundContext line.kept → IsSoundMark (mark_in line t)
mark_sound line t h =
    chosen_sound (is_below t (horizon_of line)) (mark_below line (last_not_after line.kept t)) (below_sound line (last_not_after line.kept t) h)

-- ---- where a context is in force, a later moment is not before the first

last_passes : (p : ℕ → Bool) (n k : ℕ) → last_below p n ≡ Some k → (p k ≡ true) × (k < n)
last_passes p zero k e = absurd (cc)
last_passes p (suc n) k e = here (p n) refl e (λ f. last_passes p n k f)
  where
    here : (b : Bool) → p n ≡ b → cond b (Some n) (last_below p n) ≡ Some k → (last_below p n ≡ Some k → (p k ≡ true) × (k < n)) → (p k ≡ true) × (k < suc n)
    here true f e h = let same : n ≡ k = cc in (sym (ap p same) ∙ f, omega arith)
    here false f e h = let r = h e in (r.0, omega (arith, r.1))

not_both : (b : Bool) (P : Type 0) → b ≡ false → b ≡ true → P
not_both b P e f = absurd (cc)

last_some : (p : ℕ → Bool) (n k : ℕ) → k < n → p k ≡ true → (j : ℕ) × (last_below p n ≡ Some j)
last_some p zero k lt e = absurd (omega arith)
last_some p (suc n) k lt e = here (p n) refl (λ less. last_some p n k less e)
  where
    here : (b : Bool) → p n ≡ b → (k < n → (j : ℕ) × (last_below p n ≡ Some j)) → (j : ℕ) × (cond b (Some n) (last_below p n) ≡ Some j)
    here true f h = (n, refl)
    here false f h = h (elim (cases_lt k n) [
      | inl less ↦ less
      | inr ge ↦ let same : n ≡ k = omega arith in not_both (p n) (k < n) f (ap p same ∙ e)
    ])

before_not_bound : (place : ℕ) (fields : List ℕ) (full : Bool) → cond full mark.TimelineFull mark.BeforeFirst ≡ mark.Bound place fields → ⊥
before_not_bound place fields true e = absurd (cc)
before_not_bound place fields false e = absurd (cc)

chosen_bound : (place : ℕ) (fields : List ℕ) (below : Bool) (m : Mark) → cond below m mark.Open ≡ mark.Bound place fields → m ≡ mark.Bound place fields
chosen_bound place fields true m e = e
chosen_bound place fields false m e = absurd (cc)

chosen_before : (below : Bool) (m : Mark) → cond below m mark.Open ≡ mark.BeforeFirst → (below ≡ true) × (m ≡ mark.BeforeFirst)
chosen_before true m e = (refl, e)
chosen_before false m e = absurd (cc)

pair_not_before : (place lost : ℕ) (fields : List ℕ) (whole : Bool) → cond whole (mark.Bound place fields) (mark.Lost lost) ≡ mark.BeforeFirst → ⊥
pair_not_before place lost fields true e = absurd (cc)
pair_not_before place lost fields false e = absurd (cc)

between_before : (place : ℕ) (a : TimedContext) (o : Option TimedContext) → mark_between place (Some a) o ≡ mark.BeforeFirst → o ≡ None
between_before place a (Some b) e = absurd (pair_not_before place b.lost a.fields (b.lost == 0 || healed a b) e)
between_before place a None e = refl

is_below_some : (t : ℕ) (stamp : TimeStamp) → is_below t (Some stamp) ≡ true → t < moment_of stamp
is_below_some t stamp e = grind (arith, nat_tests)

is_le : (m n : ℕ) → nat_le m n ≡ true → m ≤ n
is_le m n e = grind (arith, nat_tests)

le_still : (m s t : ℕ) → s ≤ t → nat_le m s ≡ true → nat_le m t ≡ true
le_still m s t le e = grind (arith, nat_tests)

module _ (line : TimelineState) (s t : ℕ) (le : s ≤ t) where
  abbrev reached : ℕ → ℕ → Bool
  reached u k = nat_le (get_or (moments line.kept) k 0) u

  bound_some : (place : ℕ) (fields : List ℕ) (o : Option ℕ) → mark_below line o ≡ mark.Bound place fields → (k : ℕ) × (o ≡ Some k)
  bound_some place fields None e = absurd (before_not_bound place fields (nat_lt line.limit line.added) e)
  bound_some place fields (Some k) e = (k, refl)

  -- the last that is not after t is not the last of all, whose stamp is the horizon
  before_last : (j : ℕ) (a : TimedContext) → slice_get line.kept j ≡ Some a → j < length line.kept → slice_get line.kept (j + 1) ≡ None
      → reached t j ≡ true → is_below t (horizon_of line) ≡ true → ⊥
  before_last j a e there past here below = elim (slice_get_cases line.kept (j + 1)).1 [
    | inl b ↦ let gone : Some b.0 ≡ None = sym b.2 ∙ past in absurd (cc)
    | inr none ↦
        let last : length line.kept - 1 ≡ j = omega (arith, none.0) in
        let stamp : horizon_of line ≡ Some a.stamp = ap (λ i. option_map (λ context. context.stamp) (slice_get line.kept i)) last ∙ ap (λ o. option_map (λ (context : TimedContext). context.stamp) o) e in
        let early = is_below_some t a.stamp (sym (ap (is_below t) stamp) ∙ below) in
        absurd (omega (arith, early, is_le (get_or (moments line.kept) j 0) t here, moment_at line.kept j a e there))
  ]

  at_last : (j : ℕ) → reached t j ≡ true → j < length line.kept → is_below t (horizon_of line) ≡ true → mark_below line (Some j) ≡ mark.BeforeFirst → ⊥
  at_last j here there below e = elim (slice_get_cases line.kept j).1 [
    | inl a ↦
        let place = line.added - length line.kept + j in
        let next = between_before place a.0 (slice_get line.kept (j + 1)) (sym (ap (λ o. mark_between place o (slice_get line.kept (j + 1))) a.2) ∙ e) in
        before_last j a.0 a.2 there next here below
    | inr none ↦ absurd (omega (arith, none.0))
  ]

  pub later_not_before : (place : ℕ) (fields : List ℕ) → mark_in line s ≡ mark.Bound place fields → mark_in line t ≡ mark.BeforeFirst → ⊥
  later_not_before place fields e f =
      let n = length line.kept in
      let bound = chosen_bound place fields (is_below s (horizon_of line)) (mark_below line (last_not_after line.kept s)) e in
      let k = bound_some place fields (last_not_after line.kept s) bound in
      let p = last_passes (reached s) n k.0 k.1 in
      let j = last_some (reached t) n k.0 p.1 (le_still (get_or (moments line.kept) k.0 0) s t le p.0) in
      let q = last_passes (reached t) n j.0 j.1 in
      let b = chosen_before (is_below t (horizon_of line)) (mark_below line (last_not_after line.kept t)) f in
      at_last j.0 q.0 q.1 b.0 (sym (ap (mark_below line) j.1) ∙ b.1)
