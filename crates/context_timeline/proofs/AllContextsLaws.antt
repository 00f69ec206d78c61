-- Laws of marks over all contexts: the mark of a cut of the kept is that of all.
use Rattle.std.proofs.Common.{◌≡◌, ℕ, suc, zero, ◌+◌, ◌-◌, ◌<◌, ◌≤◌, Bool, true, false, cond, ltb, eqb, ◌==◌, ◌&&◌, ◌||◌, not, List, length, get_or, refl, sym, ap, ◌∙◌, subst, inl, inr, arith, Some, Option, slice_get, length-drop, Decides}
use Rattle.std.proofs.lemmas.Bool.{cases_lt, false≢true, false_from_ne_true}
use Rattle.std.proofs.lemmas.Bool.Decides.{Decides-eqb, Decides-ltb, Decides-and, Decides-or, Decides-not}
use Rattle.std.proofs.lemmas.List.{length-map, drop-map, get_or-drop}
use Rattle.std.proofs.lemmas.Option.{slice_get_cases}
use Rattle.std.proofs.lemmas.Slice.Eq.{slice_eq-Decides}
use Rattle.std.specs.Cmp.Lexicographic.{pointwise}
use Rattle.circular_buffer.specs.Buffer.{keep_last}
use Rattle.circular_buffer.proofs.Places.{slice_get-drop}
use Rattle.vrt_time.specs.Time.{moment_of}
use Rattle.context_timeline.specs.declared.timed_context.TimedContext.{TimedContext}
use Rattle.context_timeline.specs.declared.mark.Mark.{Mark}
use Rattle.context_timeline.specs.declared.mark.Mark.TheVariants.{BeforeFirst, TimelineFull, Lost, Bound}
use Rattle.context_timeline.specs.State.{IsRising, state_of, moments}
use Rattle.context_timeline.proofs.StateLaws.{moment_at}
use Rattle.context_timeline.specs.Marks.{mark_in, healed, mark_of_pair, mark_between}
use Rattle.context_timeline.specs.Cut.{IsPartitionPoint, mark_at_cut, mark_next}
use Rattle.context_timeline.proofs.PartitionLaws.{mark_in_cut, cut_of}
use Rattle.context_timeline.specs.AllContexts.{AllKeptAfter, NoKeptAfter, IsSame, IsWhole, IsBetween, IsMark}

abbrev moment_in : TimedContext → ℕ
moment_in context = moment_of context.stamp

-- ---- whether a loss makes a difference

same_told : (a b : TimedContext) → Decides (healed a b) (IsSame a b)
same_told a b =
    let fields = slice_eq-Decides Decides-eqb a.fields b.fields (pointwise eqb a.fields b.fields) refl in
    let changed : Decides (not b.changed) (¬ (b.changed ≡ true)) = Decides-not b.changed (λ e. e, λ e. e) in
    let both = Decides-and (eqb b.lost 1) (not b.changed) (Decides-eqb b.lost 1) changed in
    let all = Decides-and (eqb b.lost 1 && not b.changed) (pointwise eqb a.fields b.fields) both fields in (
      λ e. let p = all.0 e in record {
        one = p.0.0;
        unchanged = false_from_ne_true b.changed p.0.1;
        fields = p.1;
      },
      λ p. all.1 ((p.one, λ e. false≢true (sym p.unchanged ∙ e)), p.fields),
    )

whole_told : (a b : TimedContext) → Decides (b.lost == 0 || healed a b) (IsWhole a b)
whole_told a b = Decides-or (b.lost == 0) (healed a b) (Decides-eqb b.lost 0) (same_told a b)

module _ (limit : ℕ) (contexts : List TimedContext) (t : ℕ) where
  between_told : (number : ℕ) (a b : TimedContext) → IsBetween limit contexts t number a b → (whole : Bool) → Decides whole (IsWhole a b)
      → IsMark limit contexts t (cond whole (Bound number a.fields) (Lost b.lost))
  between_told number a b h true d = record { a = a; b = b; between = h; fields_told = refl; whole = d.0 refl }
  between_told number a b h false d = record {
    number = number;
    a = a;
    b = b;
    between = h;
    lost = refl;
    not_whole = λ p. false≢true (d.1 p);
  }

  before_told : 0 < length contexts → AllKeptAfter limit contexts t → (full : Bool) → Decides full (limit < length contexts)
      → IsMark limit contexts t (cond full TimelineFull BeforeFirst)
  before_told some after true d = (d.0 refl, after)
  before_told some after false d = (some, elim (cases_lt limit (length contexts)) [ inl lt ↦ absurd (false≢true (d.1 lt)) | inr le ↦ le ], after)

  -- ---- the kept among all

  abbrev skipped : ℕ
  skipped = length contexts - limit

  abbrev kept : List TimedContext
  kept = keep_last limit contexts

  kept_moment : (k : ℕ) → get_or (moments kept) k 0 ≡ get_or (moments contexts) (skipped + k) 0
  kept_moment k = ap (λ xs. get_or xs k 0) (sym (drop-map moment_in skipped contexts)) ∙ get_or-drop skipped (moments contexts) k 0

  kept_length : length kept ≡ length contexts - skipped
  kept_length = length-drop skipped contexts

  numbered : (number : ℕ) → skipped ≤ number → get_or (moments kept) (number - skipped) 0 ≡ get_or (moments contexts) number 0
  numbered number le = let e : skipped + (number - skipped) ≡ number = omega arith in kept_moment (number - skipped) ∙ ap (λ i. get_or (moments contexts) i 0) e

  long : length (moments kept) ≡ length kept
  long = length-map kept moment_in

  none_after : (n : ℕ) → IsPartitionPoint (moments kept) t n → length kept ≤ n → NoKeptAfter limit contexts t
  none_after n h past number k =
      let at = numbered number (omega (arith, k.last)) in
      omega (arith, h.before (number - skipped) (omega (arith, k.added, k.last, kept_length)), at)

  all_after : IsPartitionPoint (moments kept) t 0 → AllKeptAfter limit contexts t
  all_after h number k =
      let at = numbered number (omega (arith, k.last)) in
      omega (arith, h.behind (number - skipped) (omega arith) (omega (arith, k.added, k.last, kept_length, long)), at)

  between : (k : ℕ) (a b : TimedContext) → IsPartitionPoint (moments kept) t (suc k) → slice_get kept k ≡ Some a → slice_get kept (suc k) ≡ Some b → suc k < length kept
      → IsBetween limit contexts t (skipped + k) a b
  between k a b h p q there = record {
    kept = record { added = omega (arith, kept_length); last = omega arith };
    first = sym (slice_get-drop skipped contexts k (skipped + k) refl) ∙ p;
    second = sym (slice_get-drop skipped contexts (suc k) (skipped + k + 1) (omega arith)) ∙ q;
    reached = omega (arith, h.before k (omega arith), moment_at kept k a p (omega arith));
    not_yet = omega (arith, h.behind (suc k) (omega arith) (omega (arith, long)), moment_at kept (suc k) b q there);
  }

  place_told : (k : ℕ) → length contexts - length kept + k ≡ skipped + k
  place_told k = omega (arith, kept_length)

  pair_told : (k : ℕ) (a b : TimedContext) → IsBetween limit contexts t (skipped + k) a b
      → IsMark limit contexts t (mark_of_pair (length contexts - length kept + k) a b)
  pair_told k a b h =
      subst (λ (i : ℕ). IsMark limit contexts t (mark_of_pair i a b)) (sym (place_told k))
      (between_told (skipped + k) a b h (b.lost == 0 || healed a b) (whole_told a b))

  next_told : (n : ℕ) (b : TimedContext) → IsPartitionPoint (moments kept) t n → slice_get kept n ≡ Some b → n < length kept
      → IsMark limit contexts t (mark_next (state_of limit contexts) n (Some b))
  next_told zero b h e there = before_told (omega (arith, kept_length)) (all_after h) (ltb limit (length contexts)) (Decides-ltb limit (length contexts))
  next_told (suc k) b h e there = elim (slice_get_cases kept k).1 [
    | inl a ↦
        subst (λ (o : Option TimedContext). IsMark limit contexts t (mark_between (length contexts - length kept + k) o (Some b))) (sym a.2)
        (pair_told k a.0 b (between k a.0 b h a.2 e there))
    | inr none ↦ absurd (omega arith)
  ]

  -- the mark that a cut of the kept gives is that of all
  pub IsMark-cut : (n : ℕ) → IsPartitionPoint (moments kept) t n → IsMark limit contexts t (mark_at_cut (state_of limit contexts) n)
  IsMark-cut n h = elim (slice_get_cases kept n).1 [
    | inl b ↦ subst (λ (o : Option TimedContext). IsMark limit contexts t (mark_next (state_of limit contexts) n o)) (sym b.2) (next_told n b.0 h b.2 b.1)
    | inr none ↦ subst (λ (o : Option TimedContext). IsMark limit contexts t (mark_next (state_of limit contexts) n o)) (sym none.1) (none_after n h none.0)
  ]

-- what a mark in the state for all contexts says of them all
pub IsMark-mark_in : (limit : ℕ) (contexts : List TimedContext) (t : ℕ) → IsRising (moments (keep_last limit contexts))
    → IsMark limit contexts t (mark_in (state_of limit contexts) t)
IsMark-mark_in limit contexts t rise =
    let cut = cut_of (moments (keep_last limit contexts)) t rise in
    let same : mark_in (state_of limit contexts) t ≡ mark_at_cut (state_of limit contexts) cut.0 = mark_in_cut (state_of limit contexts) t cut.0 cut.1 in
    subst (λ (m : Mark). IsMark limit contexts t m) (sym same) (IsMark-cut limit contexts t cut.0 cut.1)
