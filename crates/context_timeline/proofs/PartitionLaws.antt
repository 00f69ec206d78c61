-- Laws of cuts: a cut of the kept contexts by a moment gives its mark and the next stamp.
use Rattle.std.proofs.Common.{◌≡◌, ◌⊎◌, ℕ, suc, zero, ◌+◌, ◌-◌, ◌<◌, ◌≤◌, Bool, true, false, cond, ltb, leb, List, [], ◌∷◌, length, get_or, refl, sym, ap, ◌∙◌, subst, inl, inr, arith, IfSome, Some, None, Option, slice_get, option_map}
use Rattle.std.proofs.lemmas.Bool.{cases_lt, lt-ltb}
use Rattle.std.proofs.lemmas.Bool.Decides.{nat_tests}
use Rattle.std.proofs.lemmas.List.{length-map}
use Rattle.std.proofs.lemmas.Option.{slice_get_cases}
use Rattle.circular_buffer.specs.Buffer.{last_item}
use Rattle.vrt_time.specs.Time.{moment_of}
use Rattle.context_timeline.specs.declared.timed_context.TimedContext.{TimedContext}
use Rattle.context_timeline.specs.declared.mark.Mark.{Mark}
use Rattle.context_timeline.specs.declared.mark.Mark.TheVariants.{Open}
use Rattle.context_timeline.specs.State.{TimelineState, IsRising, horizon_of, moments}
use Rattle.context_timeline.proofs.StateLaws.{moment_at}
use Rattle.context_timeline.specs.Marks.{last_below, last_not_after, mark_in, mark_below, mark_between, is_below, next_stamp}
use Rattle.context_timeline.specs.Cut.{IsPartitionPoint, mark_at_cut, mark_next, stamp_at}

-- one less, if there is one
abbrev one_less : ℕ → Option ℕ
one_less zero = None
one_less (suc k) = Some k

last_below_step : (passes : ℕ → Bool) (n m : ℕ) → (n ≡ suc m) × (passes m ≡ true) ⊎ (n ≤ m) × (passes m ≡ false) × (last_below passes m ≡ one_less n)
    → last_below passes (suc m) ≡ one_less n
last_below_step passes n m h = grind arith

-- where the first n pass and no other does, the last that passes is the one before n
last_below_cut : (passes : ℕ → Bool) (n m : ℕ) → n ≤ m → ((k : ℕ) → k < n → passes k ≡ true) → ((k : ℕ) → n ≤ k → k < m → passes k ≡ false)
    → last_below passes m ≡ one_less n
last_below_cut passes n zero le front behind = let e : n ≡ 0 = omega arith in sym (ap one_less e)
last_below_cut passes n (suc m) le front behind = elim (cases_lt n (suc m)) [
  | inl lt ↦
      let off : passes m ≡ false = behind m (omega arith) (omega arith) in
      let rest = last_below_cut passes n m (omega arith) front (λ k a b. behind k a (omega arith)) in
      last_below_step passes n m (inr (omega arith, off, rest))
  | inr ge ↦
      let e : n ≡ suc m = omega arith in
      last_below_step passes n m (inl (e, front m (omega arith)))
]

-- the stamp of the first context after t stands behind the cut
pub next_stamp_cut : (kept : List TimedContext) (t n : ℕ) → IsPartitionPoint (moments kept) t n → next_stamp kept t ≡ stamp_at kept n
next_stamp_cut [] t n h = refl
next_stamp_cut (context ∷ rest) t zero h = grind (arith, nat_tests, h.behind 0)
next_stamp_cut (context ∷ rest) t (suc n) h =
    let here : moment_of context.stamp ≤ t = h.before 0 (omega arith) in
    let cut : IsPartitionPoint (moments rest) t n = record {
      within = omega (arith, h.within);
      before = λ k lt. h.before (suc k) (omega arith);
      behind = λ k ge there. h.behind (suc k) (omega arith) (omega arith);
    } in
    let more = next_stamp_cut rest t n cut in
    grind (arith, nat_tests)

-- whether t is below the horizon, by the last context that is kept
below_last : (t : ℕ) (kept : List TimedContext) (last : TimedContext) → last_item kept ≡ Some last
    → is_below t (option_map (λ context. context.stamp) (last_item kept)) ≡ ltb t (moment_of last.stamp)
below_last t kept last e = ap (λ (o : Option TimedContext). is_below t (option_map (λ context. context.stamp) o)) e

long_moments : (kept : List TimedContext) → length (moments kept) ≡ length kept
long_moments kept = length-map kept (λ context. moment_of context.stamp)

-- where a context stands behind the cut, the moment is below the horizon
below_horizon : (kept : List TimedContext) (t n : ℕ) → IsPartitionPoint (moments kept) t n → n < length kept → is_below t (option_map (λ context. context.stamp) (last_item kept)) ≡ true
below_horizon kept t n h there =
    let k = length kept - 1 in
    elim (slice_get_cases kept k).1 [
      | inl last ↦
          let at = moment_at kept k last.0 last.2 last.1 in
          let above : t < moment_of last.0.stamp = omega (arith, h.behind k (omega arith) (omega (arith, long_moments kept)), at) in
          below_last t kept last.0 last.2 ∙ lt-ltb t (moment_of last.0.stamp) above
      | inr none ↦ absurd (omega arith)
    ]

not_below : (t m : ℕ) → m ≤ t → ltb t m ≡ false
not_below t m le = grind (arith, nat_tests)

-- where none does, it is not
past_horizon : (kept : List TimedContext) (t n : ℕ) → IsPartitionPoint (moments kept) t n → length kept ≤ n → is_below t (option_map (λ context. context.stamp) (last_item kept)) ≡ false
past_horizon kept t n h none =
    let k = length kept - 1 in
    elim (slice_get_cases kept k).1 [
      | inl last ↦
          let at = moment_at kept k last.0 last.2 last.1 in
          let under : moment_of last.0.stamp ≤ t = omega (arith, h.before k (omega arith), at) in
          below_last t kept last.0 last.2 ∙ not_below t (moment_of last.0.stamp) under
      | inr empty ↦ ap (λ (o : Option TimedContext). is_below t (option_map (λ context. context.stamp) o)) empty.1
    ]

not_after : (m t : ℕ) → m ≤ t → leb m t ≡ true
not_after m t le = grind (arith, nat_tests)

after : (m t : ℕ) → t < m → leb m t ≡ false
after m t lt = grind (arith, nat_tests)

-- the last that is not after t stands in front of the cut
last_not_after_cut : (kept : List TimedContext) (t n : ℕ) → IsPartitionPoint (moments kept) t n → last_not_after kept t ≡ one_less n
last_not_after_cut kept t n h =
    let long = long_moments kept in
    last_below_cut (λ k. leb (get_or (moments kept) k 0) t) n (length kept) (omega (arith, h.within))
    (λ k lt. not_after (get_or (moments kept) k 0) t (h.before k lt))
    (λ k ge there. after (get_or (moments kept) k 0) t (h.behind k ge (omega arith)))

-- the neighbours of the cut
neighbours : (line : TimelineState) (n : ℕ) (b : TimedContext) → slice_get line.kept n ≡ Some b → mark_below line (one_less n) ≡ mark_next line n (Some b)
neighbours line zero b e = refl
neighbours line (suc k) b e =
    let next : slice_get line.kept (k + 1) ≡ Some b = ap (λ i. slice_get line.kept i) (omega arith) ∙ e in
    ap (λ (o : Option TimedContext). mark_between (line.added - length line.kept + k) (slice_get line.kept k) o) next

nothing_next : (line : TimelineState) (n : ℕ) → mark_next line n None ≡ Open
nothing_next line n = refl

choose : (below : Bool) (b : Bool) (m n : Mark) → below ≡ b → cond below m n ≡ cond b m n
choose below b m n e = ap (λ x. cond x m n) e

-- the mark of a moment is that of its cut
pub mark_in_cut : (line : TimelineState) (t n : ℕ) → IsPartitionPoint (moments line.kept) t n → mark_in line t ≡ mark_at_cut line n
mark_in_cut line t n h =
    elim (slice_get_cases line.kept n).1 [
      | inl next ↦
          choose (is_below t (horizon_of line)) true (mark_below line (last_not_after line.kept t)) Open (below_horizon line.kept t n h next.1)
          ∙ ap (λ (o : Option ℕ). mark_below line o) (last_not_after_cut line.kept t n h)
          ∙ neighbours line n next.0 next.2
          ∙ ap (λ (o : Option TimedContext). mark_next line n o) (sym next.2)
      | inr none ↦
          choose (is_below t (horizon_of line)) false (mark_below line (last_not_after line.kept t)) Open (past_horizon line.kept t n h none.0)
          ∙ sym (nothing_next line n)
          ∙ ap (λ (o : Option TimedContext). mark_next line n o) (sym none.1)
    ]

-- a later moment that is not yet at the next stamp cuts the same
cut_later : (kept : List TimedContext) (t u n : ℕ) → IsRising (moments kept) → IsPartitionPoint (moments kept) t n → t ≤ u → IfSome (stamp_at kept n) (λ stamp. u < moment_of stamp)
    → IsPartitionPoint (moments kept) u n
cut_later kept t u n rise h le until = record {
  within = h.within;
  before = λ k lt. omega (arith, h.before k lt);
  behind = λ k ge there. elim (slice_get_cases kept n).1 [
    | inl next ↦
        let here : u < moment_of next.0.stamp =
        subst (λ (o : Option TimedContext). IfSome (option_map (λ context. context.stamp) o) (λ stamp. u < moment_of stamp)) next.2 until in
        let at = moment_at kept n next.0 next.2 next.1 in
        elim (cases_lt n k) [
          | inl lt ↦ omega (arith, at, here, rise.rising n k lt there)
          | inr same ↦ let e : k ≡ n = omega arith in omega (arith, at, here, ap (λ i. get_or (moments kept) i 0) e)
        ]
    | inr none ↦ absurd (omega (arith, long_moments kept))
  ];
}

-- and has the same mark
pub mark_in_later : (line : TimelineState) (t u n : ℕ) → IsRising (moments line.kept) → IsPartitionPoint (moments line.kept) t n → t ≤ u
    → IfSome (stamp_at line.kept n) (λ stamp. u < moment_of stamp) → mark_in line u ≡ mark_at_cut line n
mark_in_later line t u n rise h le until = mark_in_cut line u n (cut_later line.kept t u n rise h le until)

-- ---- rising moments are cut somewhere

front_more : (x : ℕ) (xs : List ℕ) (t n : ℕ) → x ≤ t → ((k : ℕ) → k < n → get_or xs k 0 ≤ t) → (k : ℕ) → k < suc n → get_or (x ∷ xs) k 0 ≤ t
front_more x xs t n le front zero lt = le
front_more x xs t n le front (suc k) lt = front k (omega arith)

behind_more : (x : ℕ) (xs : List ℕ) (t n : ℕ) → ((k : ℕ) → n ≤ k → k < length xs → t < get_or xs k 0) → (k : ℕ) → suc n ≤ k → k < length (x ∷ xs) → t < get_or (x ∷ xs) k 0
behind_more x xs t n behind zero ge there = absurd (omega arith)
behind_more x xs t n behind (suc k) ge there = behind k (omega arith) (omega arith)

all_behind : (x : ℕ) (xs : List ℕ) (t : ℕ) → IsRising (x ∷ xs) → t < x → (k : ℕ) → 0 ≤ k → k < length (x ∷ xs) → t < get_or (x ∷ xs) k 0
all_behind x xs t h lt zero ge there = lt
all_behind x xs t h lt (suc k) ge there = omega (arith, lt, h.rising 0 (suc k) (omega arith) there)

rising_rest : (x : ℕ) (xs : List ℕ) → IsRising (x ∷ xs) → IsRising xs
rising_rest x xs h = record { rising = λ i j lt there. h.rising (suc i) (suc j) (omega arith) (omega arith) }

pub cut_of : (times : List ℕ) (t : ℕ) → IsRising times → (n : ℕ) × IsPartitionPoint times t n
cut_of [] t h = (
  0,
  record {
    within = omega arith;
    before = λ k lt. absurd (omega arith);
    behind = λ k ge there. absurd (omega arith);
  },
)
cut_of (x ∷ xs) t h = elim (cases_lt t x) [
  | inl lt ↦ (
    0,
    record {
      within = omega arith;
      before = λ k none. absurd (omega arith);
      behind = all_behind x xs t h lt;
    },
  )
  | inr le ↦
      let rest = cut_of xs t (rising_rest x xs h) in (
        suc rest.0,
        record {
          within = omega (arith, rest.1.within);
          before = front_more x xs t rest.0 le rest.1.before;
          behind = behind_more x xs t rest.0 rest.1.behind;
        },
      )
]
