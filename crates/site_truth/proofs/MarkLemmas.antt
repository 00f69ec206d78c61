-- What each mark says of a delivery: which context is in force, or why none is said to be.
use Rattle.std.proofs.Common.{◌≡◌, ℕ, suc, zero, ◌+◌, ◌-◌, ◌<◌, ◌≤◌, nat_lt, not, Bool, true, false, List, length, take, drop, filter, get_or, slice_get, Some, refl, sym, ap, ◌∙◌, subst, inl, inr, arith, length-drop}
use Rattle.std.proofs.lemmas.Bool.{cases_lt}
use Rattle.std.proofs.lemmas.List.{length-map, drop-map, get_or-drop, get_or-take, length-take-le}
use Rattle.std.specs.List.{range_with_len}
use Rattle.vrt_time.specs.Time.{moment_of}
use Rattle.context_timeline.specs.declared.timed_context.TimedContext.{TimedContext}
use Rattle.context_timeline.specs.declared.mark.Mark.{Mark}
use Rattle.context_timeline.specs.declared.mark.Mark.TheVariants as mark
use Rattle.context_timeline.specs.AllContexts.{AllKeptAfter, NoKeptAfter, IsBetween, IsLost, IsBoundMark, IsMark}
use Rattle.context_timeline.specs.State.{IsRising, state_of, moments, keep_last}
use Rattle.context_timeline.specs.Marks.{mark_in}
use Rattle.context_timeline.proofs.AllContextsLaws.{IsMark-mark_in}
use Rattle.context_timeline.proofs.StateLaws.{moment_at}
use Rattle.reorder_window.specs.Delivery.{IsSent, occurs, number_absent}
use Rattle.reorder_window.proofs.OrderLemmas.{ltb-true}
use Rattle.sample_binder.specs.Events.{contexts_of}
use Rattle.site_truth.specs.Site.{Site, IsInForce, context_sent, context_moment, fields_at}
use Rattle.site_truth.specs.Delivered.{Delivery, all_events}
use Rattle.site_truth.specs.Cause.{IsLostAround, AllAfter, number_after}
use Rattle.site_truth.specs.Truth.{AreInForce}
use Rattle.site_truth.proofs.ListLemmas.{slice_get-front, slice_get-within, place_among, last_pass}
use Rattle.site_truth.proofs.ToldLemmas.{context_told, AreContextsTold}

-- what counts of the contexts of a site and of their delivery
pub record AreContextsKnown (delivery : Delivery) : Type 0 where
  pub start : ℕ
  pub sent : IsSent start delivery.site.contexts_sent (context_sent delivery.site)
  pub unchanged : (k : ℕ) → k + 1 < delivery.site.contexts_sent → (delivery.site.context (k + 1)).changed ≡ false → fields_at delivery.site (k + 1) ≡ fields_at delivery.site k
  pub within : (k : ℕ) → occurs k delivery.contexts ≡ true → k < delivery.site.contexts_sent
  pub kept : 2 ≤ delivery.limits.kept

-- these are the fields of the context at this place
pub record AreFieldsAt (contexts : List TimedContext) (place : ℕ) (fields : List ℕ) : Type 0 where
  pub context : TimedContext
  pub there : slice_get contexts place ≡ Some context
  pub are : fields ≡ context.fields

-- none of these is after t
abbrev pub NoneOfThemAfter : Delivery → List ℕ → ℕ → Type 0
NoneOfThemAfter delivery numbers t = (k : ℕ) → occurs k numbers ≡ true → context_moment delivery.site k ≤ t

-- what a mark says, where the contexts of these numbers were released
abbrev pub IsTrueMark : Delivery → List ℕ → List TimedContext → ℕ → Mark → Type 0
IsTrueMark delivery numbers contexts t mark.Open = NoneOfThemAfter delivery numbers t
IsTrueMark delivery numbers contexts t mark.BeforeFirst = AllAfter delivery t
IsTrueMark delivery numbers contexts t mark.TimelineFull = delivery.limits.kept ≤ number_after delivery t numbers
IsTrueMark delivery numbers contexts t (mark.Lost n) = IsLostAround delivery t n
IsTrueMark delivery numbers contexts t (mark.Bound place fields) = AreInForce delivery t fields × AreFieldsAt contexts place fields

-- ---- numbers that are absent

not_there : (m : ℕ) (order : List ℕ) → (occurs m order ≡ true → ⊥) → occurs m order ≡ false
not_there m order h = by_case (occurs m order) refl
  where
    by_case : (v : Bool) → occurs m order ≡ v → v ≡ false
    by_case false e = refl
    by_case true e = absurd (h e)

all_absent : (order : List ℕ) (a n : ℕ) → ((m : ℕ) → a ≤ m → m < a + n → occurs m order ≡ false) → length (filter (λ m. not (occurs m order)) (range_with_len a n)) ≡ n
all_absent order a zero h = refl
all_absent order a (suc n) h =
    let r = all_absent order (a + 1) n (λ m u v. h m (omega (arith, u)) (omega (arith, v))) in
    rw (h a (omega arith) (omega arith)) (ap suc r)

module _ (delivery : Delivery) (known : AreContextsKnown delivery) (told : AreContextsTold delivery) where
  abbrev site : Site
  site = delivery.site

  -- the number at a place, and the moment of a context
  abbrev at : ℕ → ℕ
  at i = get_or told.numbers i 0

  abbrev moment : ℕ → ℕ
  moment k = context_moment site k

  arrived : (i : ℕ) → i < length told.numbers → occurs (at i) delivery.contexts ≡ true
  arrived i lt = told.in_order.inside i lt

  is_sent : (i : ℕ) → i < length told.numbers → at i < site.contexts_sent
  is_sent i lt = known.within (at i) (arrived i lt)

  number_le : (i j : ℕ) → i ≤ j → j < length told.numbers → at i ≤ at j
  number_le i j le lt = elim (cases_lt i j) [
    | inl less ↦ let r = told.in_order.rising.rising i j less lt in omega arith
    | inr ge ↦ let same : i ≡ j = omega arith in omega (arith, ap (λ n. get_or told.numbers n 0) same)
  ]

  moment_le : (j k : ℕ) → j ≤ k → k < site.contexts_sent → moment j ≤ moment k
  moment_le j k le lt = elim (cases_lt j k) [
    | inl less ↦ let r : moment j < moment k = known.sent.rising j k less lt in omega arith
    | inr ge ↦ let same : j ≡ k = omega arith in omega (arith, ap (λ n. context_moment site n) same)
  ]

  none_between : (i : ℕ) → suc i < length told.numbers → (m : ℕ) → at i < m → m < at (suc i) → occurs m delivery.contexts ≡ false
  none_between i lt m above below = not_there m delivery.contexts (λ e.
      let p = told.in_order.all m e in
      elim (cases_lt i p.0) [
        | inl later ↦ let r = number_le (suc i) p.0 (omega arith) p.1 in omega (arith, r, p.2)
        | inr le ↦ let r = number_le p.0 i (omega arith) (omega arith) in omega (arith, r, p.2)
      ])

  distance : (i : ℕ) → suc i < length told.numbers → number_absent delivery.contexts (at i) (at (suc i)) ≡ at (suc i) - at i - 1
  distance i lt =
      let rise = told.in_order.rising.rising i (suc i) (omega arith) lt in
      all_absent delivery.contexts (at i + 1) (at (suc i) - at i - 1) (λ m u v. none_between i lt m (omega (arith, u)) (omega (arith, v, rise)))

  -- the one before a later one that is after t is in force
  is_in_force : (t k next : ℕ) → next ≡ k + 1 → next < site.contexts_sent → moment k ≤ t → t < moment next → IsInForce site t k
  is_in_force t k next e lt reached later = record {
    sent = omega arith;
    reached = reached;
    last = λ m above sent. let r = moment_le next m (omega arith) sent in omega (arith, r, later);
  }

  -- the neighbours around t
  record IsAround (t i : ℕ) : Type 0 where
    pub there : suc i < length told.numbers
    pub reached : moment (at i) ≤ t
    pub not_yet : t < moment (at (suc i))

  bound_whole : (t i : ℕ) → IsAround t i → number_absent delivery.contexts (at i) (at (suc i)) ≡ 0 → AreInForce delivery t (fields_at site (at i))
  bound_whole t i h none =
      let far = distance i h.there in
      let rise = told.in_order.rising.rising i (suc i) (omega arith) h.there in
      let next : at (suc i) ≡ at i + 1 = omega (arith, far, rise, none) in
      record {
        context = at i;
        in_force = is_in_force t (at i) (at (suc i)) next (is_sent (suc i) h.there) h.reached h.not_yet;
        fields_are = refl;
        known = inl (arrived i (omega (arith, h.there)));
      }

  bound_healed : (t i : ℕ) → IsAround t i → number_absent delivery.contexts (at i) (at (suc i)) ≡ 1 → (site.context (at (suc i))).changed ≡ false
      → fields_at site (at i) ≡ fields_at site (at (suc i)) → AreInForce delivery t (fields_at site (at i))
  bound_healed t i h one clear same =
      let far = distance i h.there in
      let rise = told.in_order.rising.rising i (suc i) (omega arith) h.there in
      let lost : ℕ = at i + 1 in
      let next : at (suc i) ≡ lost + 1 = omega (arith, far, rise, one) in
      let sent : at (suc i) < site.contexts_sent = is_sent (suc i) h.there in
      let sent_next : lost + 1 < site.contexts_sent = omega (arith, sent, next) in
      let clear_next : (site.context (lost + 1)).changed ≡ false = sym (ap (λ k. (site.context k).changed) next) ∙ clear in
      let copied : fields_at site (lost + 1) ≡ fields_at site lost = known.unchanged lost sent_next clear_next in
      let alike : fields_at site (at i) ≡ fields_at site lost = same ∙ ap (λ k. fields_at site k) next ∙ copied in
      elim (cases_lt t (moment lost)) [
        | inl before ↦ record {
          context = at i;
          in_force = is_in_force t (at i) lost refl (omega arith) h.reached before;
          fields_are = refl;
          known = inl (arrived i (omega (arith, h.there)));
        }
        | inr from ↦ record {
          context = lost;
          in_force = is_in_force t lost (at (suc i)) next sent from h.not_yet;
          fields_are = alike;
          known = inr (record {
            before = at i;
            next_to = refl;
            before_arrived = arrived i (omega (arith, h.there));
            after_arrived = sym (ap (λ k. occurs k delivery.contexts) next) ∙ arrived (suc i) h.there;
            unchanged = clear_next;
            same = sym alike;
          });
        }
      ]

  lost_around : (t i : ℕ) → IsAround t i → 1 ≤ number_absent delivery.contexts (at i) (at (suc i)) → IsLostAround delivery t (number_absent delivery.contexts (at i) (at (suc i)))
  lost_around t i h some = record {
    a = at i;
    b = at (suc i);
    a_arrived = arrived i (omega (arith, h.there));
    b_arrived = arrived (suc i) h.there;
    ordered = told.in_order.rising.rising i (suc i) (omega arith) h.there;
    neighbours = none_between i h.there;
    reached = h.reached;
    not_yet = h.not_yet;
    absent = refl;
    some = some;
  }

  -- ---- after the first c contexts

  module _ (c : ℕ) (few : c ≤ length told.numbers) where
    abbrev contexts : List TimedContext
    contexts = take c (contexts_of (all_events delivery))

    abbrev kept : ℕ
    kept = delivery.limits.kept

    long : length contexts ≡ c
    long = length-take-le c (contexts_of (all_events delivery)) (omega (arith, told.long))

    long_moments : length (moments contexts) ≡ c
    long_moments = length-map contexts (λ context. moment_of context.stamp) ∙ long

    item : (i : ℕ) → i < c → slice_get contexts i ≡ Some (context_told delivery told.numbers i)
    item i lt = slice_get-front c (contexts_of (all_events delivery)) i lt ∙ told.each i (omega arith)

    moment_told : (i : ℕ) → i < c → get_or (moments contexts) i 0 ≡ moment (at i)
    moment_told i lt = moment_at contexts i (context_told delivery told.numbers i) (item i lt) (omega (arith, long))

    rise : IsRising (moments (keep_last kept contexts))
    rise =
        let n = length contexts - kept in
        let same : moments (drop n contexts) ≡ drop n (moments contexts) = sym (drop-map (λ (context : TimedContext). moment_of context.stamp) n contexts) in
        subst IsRising (sym same) (record {
          rising = λ i j lt there.
              let within : n + j < c = omega (arith, length-drop n (moments contexts), long_moments, there) in
              let numbers = told.in_order.rising.rising (n + i) (n + j) (omega arith) (omega arith) in
              let r : moment (at (n + i)) < moment (at (n + j)) = known.sent.rising (at (n + i)) (at (n + j)) numbers (is_sent (n + j) (omega arith)) in
              omega (arith, get_or-drop n (moments contexts) i 0, get_or-drop n (moments contexts) j 0, moment_told (n + i) (omega arith), moment_told (n + j) within, r);
        })

    around : (t i : ℕ) (a b : TimedContext) → IsBetween kept contexts t i a b
        → IsAround t i × (a ≡ context_told delivery told.numbers i) × (b ≡ context_told delivery told.numbers (suc i))
    around t i a b h =
        let next : i + 1 ≡ suc i = omega arith in
        let second : slice_get contexts (suc i) ≡ Some b = sym (ap (λ n. slice_get contexts n) next) ∙ h.second in
        let inside : suc i < c = omega (arith, slice_get-within contexts (suc i) b second, long) in
        let is_a : a ≡ context_told delivery told.numbers i = let e = sym h.first ∙ item i (omega arith) in cc in
        let is_b : b ≡ context_told delivery told.numbers (suc i) = let e = sym second ∙ item (suc i) inside in cc in (
          record {
            there = omega arith;
            reached = omega (arith, h.reached, ap (λ (x : TimedContext). moment_of x.stamp) is_a);
            not_yet = omega (arith, h.not_yet, ap (λ (x : TimedContext). moment_of x.stamp) is_b);
          },
          is_a,
          is_b,
        )

    first_numbers : (i : ℕ) → i < c → get_or (take c told.numbers) i 0 ≡ at i
    first_numbers i lt = get_or-take c told.numbers i 0 lt

    long_numbers : length (take c told.numbers) ≡ c
    long_numbers = length-take-le c told.numbers few

    open_told : (t : ℕ) → NoKeptAfter kept contexts t → NoneOfThemAfter delivery (take c told.numbers) t
    open_told t h k e =
        let p = place_among k (take c told.numbers) e in
        let lt : p.0 < c = omega (arith, p.1, long_numbers) in
        let last : ℕ = c - 1 in
        let last_le : moment (at last) ≤ t = omega (arith, h last (record { added = omega (arith, long); last = omega (arith, long, known.kept) }), moment_told last (omega arith)) in
        let order = number_le p.0 last (omega arith) (omega arith) in
        let le : moment (at p.0) ≤ moment (at last) = moment_le (at p.0) (at last) order (is_sent last (omega arith)) in
        let same : at p.0 ≡ k = sym (first_numbers p.0 lt) ∙ p.2 in
        omega (arith, le, last_le, ap (λ n. context_moment site n) same)

    before_told : (t : ℕ) → 0 < length contexts → length contexts ≤ kept → AllKeptAfter kept contexts t → AllAfter delivery t
    before_told t some all h k e =
        let p = told.in_order.all k e in
        let first : t < moment (at 0) = omega (arith, h 0 (record { added = some; last = omega arith }), moment_told 0 (omega (arith, long))) in
        let order = number_le 0 p.0 (omega arith) p.1 in
        let le : moment (at 0) ≤ moment (at p.0) = moment_le (at 0) (at p.0) order (is_sent p.0 p.1) in
        omega (arith, le, first, ap (λ n. context_moment site n) p.2)

    full_told : (t : ℕ) → kept < length contexts → AllKeptAfter kept contexts t → kept ≤ number_after delivery t (take c told.numbers)
    full_told t many h = last_pass (λ k. nat_lt t (context_moment site k)) kept (take c told.numbers) (omega (arith, long, long_numbers)) (λ i late within.
        let lt : i < c = omega (arith, within, long_numbers) in
        let after : t < moment (at i) = omega (arith, h i (record { added = omega (arith, long); last = omega (arith, long, late, long_numbers) }), moment_told i lt) in
        ap (λ k. nat_lt t (context_moment site k)) (first_numbers i lt) ∙ ltb-true t (moment (at i)) after)

    bound_told : (t place : ℕ) (fields : List ℕ) → IsBoundMark kept contexts t place fields → AreInForce delivery t fields × AreFieldsAt contexts place fields
    bound_told t place fields h =
        let r = around t place h.a h.b h.between in
        let are : fields ≡ fields_at site (at place) = h.fields_told ∙ ap (λ (x : TimedContext). x.fields) r.1 in
        let lost : h.b.lost ≡ number_absent delivery.contexts (at place) (at (suc place)) = ap (λ (x : TimedContext). x.lost) r.2 in (
          subst (AreInForce delivery t) (sym are) (elim h.whole [
            | inl none ↦ bound_whole t place r.0 (sym lost ∙ none)
            | inr same ↦ bound_healed t place r.0 (sym lost ∙ same.one) (sym (ap (λ (x : TimedContext). x.changed) r.2) ∙ same.unchanged)
                (sym (ap (λ (x : TimedContext). x.fields) r.1) ∙ same.fields ∙ ap (λ (x : TimedContext). x.fields) r.2)
          ]),
          record { context = h.a; there = h.between.first; are = h.fields_told },
        )

    lost_told : (t n : ℕ) → IsLost kept contexts t n → IsLostAround delivery t n
    lost_told t n h =
        let r = around t h.number h.a h.b h.between in
        let lost : n ≡ number_absent delivery.contexts (at h.number) (at (suc h.number)) = h.lost ∙ ap (λ (x : TimedContext). x.lost) r.2 in
        let some : 1 ≤ n = elim (cases_lt 0 n) [ inl lt ↦ omega arith | inr le ↦ let zero_lost : h.b.lost ≡ 0 = omega (arith, h.lost) in absurd (h.not_whole (inl zero_lost)) ] in
        subst (IsLostAround delivery t) (sym lost) (lost_around t h.number r.0 (omega (arith, some, lost)))

    mark_told : (t : ℕ) (m : Mark) → IsMark kept contexts t m → IsTrueMark delivery (take c told.numbers) contexts t m
    mark_told t mark.Open h = open_told t h
    mark_told t mark.BeforeFirst h = before_told t h.0 h.1 h.2
    mark_told t mark.TimelineFull h = full_told t h.0 h.1
    mark_told t (mark.Lost n) h = lost_told t n h
    mark_told t (mark.Bound place fields) h = bound_told t place fields h

    -- the mark of a moment is true
    pub mark_is_true : (t : ℕ) → IsTrueMark delivery (take c told.numbers) contexts t (mark_in (state_of kept contexts) t)
    mark_is_true t = mark_told t (mark_in (state_of kept contexts) t) (IsMark-mark_in kept contexts t rise)
