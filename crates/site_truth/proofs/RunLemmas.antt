-- The runs in which a packet leaves are true.
use Rattle.std.proofs.Common.{◌≡◌, ◌⊎◌, ℕ, ◌+◌, ◌-◌, ◌<◌, ◌≤◌, ◌==◌, ◌&&◌, ◌||◌, nat_lt, Bool, true, false, cond, List, [], ◌∷◌, map, length, get_or, slice_get, Option, Some, None, refl, sym, ap, ◌∙◌, subst, inl, inr, arith}
use Rattle.std.proofs.lemmas.Bool.{false≢true}
use Rattle.std.proofs.lemmas.Bool.Decides.{eqb_tells}
use Rattle.vrt_time.specs.Time.{TimeStamp, moment_of, capture_at}
use Rattle.vrt_time.proofs.TimeLaws.{capture_at-le}
use Rattle.vrt_fields.specs.Field.{place_of}
use Rattle.vrt_fields.specs.declared.field.Field.TheVariants.{Format}
use Rattle.context_timeline.specs.declared.timed_context.TimedContext.{TimedContext}
use Rattle.context_timeline.specs.declared.mark.Mark.{Mark}
use Rattle.context_timeline.specs.declared.mark.Mark.TheVariants as mark
use Rattle.context_timeline.specs.State.{TimelineState, horizon_of}
use Rattle.context_timeline.specs.Marks.{mark_in, mark_below, mark_between, last_not_after, is_below, healed}
use Rattle.reorder_window.proofs.OrderLemmas.{ltb-true, ltb_tells}
use Rattle.sample_binder.specs.declared.label.Label.{Label}
use Rattle.sample_binder.specs.declared.label.Label.TheVariants as label
use Rattle.sample_binder.specs.declared.reason.Reason.{Reason}
use Rattle.sample_binder.specs.declared.reason.Reason.TheVariants as reason
use Rattle.sample_binder.specs.declared.out.Run.{Run}
use Rattle.sample_binder.specs.Calls.{shape_in}
use Rattle.sample_binder.specs.Due.{is_known, is_known_by, is_closed}
use Rattle.sample_binder.specs.Parts.{samples_of}
use Rattle.sample_binder.specs.Readings.{IsLongest, AreStretches}
use Rattle.sample_binder.specs.Runs.{same_sampling, label_by, same_reason, same_label, label_at, cut, run_by, run_at, runs_bound, runs_by, runs_of}
use Rattle.sample_binder.specs.Samples.{rate_in, size_in, number_of}
use Rattle.sample_binder.proofs.LawLemmas.{longest_told}
use Rattle.site_truth.specs.Site.{Site, IsSameSampling, IsSteady, IsInForce, DividesInto, fields_at, packet_stamp, packet_moment, sample_moment}
use Rattle.site_truth.specs.Delivered.{Delivery}
use Rattle.site_truth.specs.Cause.{Left, IsCause}
use Rattle.site_truth.specs.Truth.{AreInForce, Sampled, IsTimed, IsTrueRun, AreTrueRuns, IsTrueRaw, IsTrueCut}
use Rattle.site_truth.proofs.MarkLemmas.{AreFieldsAt, NoneOfThemAfter, IsTrueMark}

-- ---- where a mark is open

mark_before-not_open : (full : Bool) → cond full mark.TimelineFull mark.BeforeFirst ≡ mark.Open → ⊥
mark_before-not_open true e = cc
mark_before-not_open false e = cc

pair-not_open : (place : ℕ) (a b : TimedContext) (whole : Bool) → cond whole (mark.Bound place a.fields) (mark.Lost b.lost) ≡ mark.Open → ⊥
pair-not_open place a b true e = cc
pair-not_open place a b false e = cc

between-not_open : (place : ℕ) (o p : Option TimedContext) → mark_between place o p ≡ mark.Open → ⊥
between-not_open place (Some a) (Some b) e = pair-not_open place a b (b.lost == 0 || healed a b) e
between-not_open place (Some a) None e = cc
between-not_open place None (Some b) e = cc
between-not_open place None None e = cc

below-not_open : (line : TimelineState) (o : Option ℕ) → mark_below line o ≡ mark.Open → ⊥
below-not_open line None e = mark_before-not_open (nat_lt line.limit line.added) e
below-not_open line (Some k) e = between-not_open (line.added - length line.kept + k) (slice_get line.kept k) (slice_get line.kept (k + 1)) e

-- an open moment is not below the horizon
open_above : (line : TimelineState) (t : ℕ) → mark_in line t ≡ mark.Open → is_below t (horizon_of line) ≡ true → ⊥
open_above line t e below =
    below-not_open line (last_not_after line.kept t) (sym (ap (λ b. cond b (mark_below line (last_not_after line.kept t)) mark.Open) below) ∙ e)

below_earlier : (s t : ℕ) (o : Option TimeStamp) → s ≤ t → is_below t o ≡ true → is_below s o ≡ true
below_earlier s t None le e = e
below_earlier s t (Some horizon) le e = elim (ltb_tells t (moment_of horizon)) [
  | inl lt ↦ ltb-true s (moment_of horizon) (omega (arith, lt.1))
  | inr ge ↦ absurd (false≢true (sym ge.0 ∙ e))
]

-- ---- labels

-- the label of a sample at t is true
abbrev pub IsTrueLabel : Delivery → Left → List TimedContext → ℕ → Label → Type 0
IsTrueLabel delivery left contexts t (label.Bound place fields) = AreInForce delivery t fields × AreFieldsAt contexts place fields
IsTrueLabel delivery left contexts t (label.Uncertain why) = IsCause delivery left t why

same_reason-is : (a b : Reason) → same_reason a b ≡ true → a ≡ b
same_reason-is reason.BeforeFirst reason.BeforeFirst e = refl
same_reason-is (reason.ContextLost n) (reason.ContextLost m) e = elim (eqb_tells n m) [ inl t ↦ ap reason.ContextLost t.1 | inr t ↦ absurd (false≢true (sym t.0 ∙ e)) ]
same_reason-is reason.PendingFull reason.PendingFull e = refl
same_reason-is reason.TimelineFull reason.TimelineFull e = refl
same_reason-is reason.Ended reason.Ended e = refl
same_reason-is reason.FormatChanged reason.FormatChanged e = refl
same_reason-is reason.Shape reason.Shape e = refl
same_reason-is a b e = absurd (false≢true e)

at_one_place : (contexts : List TimedContext) (place other : ℕ) (fields others : List ℕ) → place ≡ other → AreFieldsAt contexts place fields → AreFieldsAt contexts other others → others ≡ fields
at_one_place contexts place other fields others e h k =
    let there : slice_get contexts place ≡ Some k.context = ap (λ n. slice_get contexts n) e ∙ k.there in
    let both : Some h.context ≡ Some k.context = sym h.there ∙ there in
    let same : h.context ≡ k.context = cc in
    k.are ∙ sym (ap (λ (x : TimedContext). x.fields) same) ∙ sym h.are

-- what is true of a label is true of one that is the same, at another moment where it is true
alike_bound : (delivery : Delivery) (left : Left) (contexts : List TimedContext) (t place : ℕ) (fields : List ℕ) (other : Label) → AreFieldsAt contexts place fields
    → same_label (label.Bound place fields) other ≡ true → IsTrueLabel delivery left contexts t other → AreInForce delivery t fields
alike_bound delivery left contexts t place fields (label.Bound there others) h e k = elim (eqb_tells place there) [
  | inl s ↦ subst (AreInForce delivery t) (at_one_place contexts place there fields others s.1 h k.1) k.0
  | inr s ↦ absurd (false≢true (sym s.0 ∙ e))
]
alike_bound delivery left contexts t place fields (label.Uncertain why) h e k = absurd (false≢true e)

alike_uncertain : (delivery : Delivery) (left : Left) (contexts : List TimedContext) (t : ℕ) (why : Reason) (other : Label)
    → same_label (label.Uncertain why) other ≡ true → IsTrueLabel delivery left contexts t other → IsCause delivery left t why
alike_uncertain delivery left contexts t why (label.Bound there others) e k = absurd (false≢true e)
alike_uncertain delivery left contexts t why (label.Uncertain others) e k = subst (IsCause delivery left t) (sym (same_reason-is why others e)) k

equal_test : (a b : ℕ) → a ≡ b → (a == b) ≡ true
equal_test a b e = elim (eqb_tells a b) [ inl t ↦ t.0 | inr t ↦ absurd (t.1 e) ]

all_three : (a b c : Bool) → a ≡ true → b ≡ true → c ≡ true → (a && b && c) ≡ true
all_three true true true e f g = refl
all_three true true false e f g = g
all_three true false true e f g = f
all_three true false false e f g = f
all_three false b c e f g = e

sampling_test : (a b : List ℕ) → IsSameSampling a b → same_sampling a b ≡ true
sampling_test a b h =
    all_three (rate_in a == rate_in b) (get_or a (place_of Format) 0 == get_or b (place_of Format) 0) (get_or a (place_of Format + 1) 0 == get_or b (place_of Format + 1) 0)
    (equal_test (rate_in a) (rate_in b) h.rate) (equal_test (get_or a (place_of Format) 0) (get_or b (place_of Format) 0) h.format_first)
    (equal_test (get_or a (place_of Format + 1) 0) (get_or b (place_of Format + 1) 0) h.format_second)

-- ---- a packet

-- what is known when a packet leaves: the marks are true; and where it is open, the reason has its cause, if it was not known how
-- the packet leaves
pub record IsLeaving (delivery : Delivery) (left : Left) (n : ℕ) (contexts : List TimedContext) (line : TimelineState) (why : Reason) : Type 0 where
  pub marks : (t : ℕ) → IsTrueMark delivery left.contexts contexts t (mark_in line t)
  pub opens : (t : ℕ) → is_known line (shape_in (packet_stamp delivery.site n) (delivery.site.packet n)) ≡ false → NoneOfThemAfter delivery left.contexts t → IsCause delivery left t why
  pub steady : IsSteady delivery.site n
  pub rates : (k : ℕ) → k < delivery.site.contexts_sent → 0 < rate_in (fields_at delivery.site k)

module _ (delivery : Delivery) (left : Left) (n : ℕ) (contexts : List TimedContext) (line : TimelineState) (why : Reason) (h : IsLeaving delivery left n contexts line why) where
  abbrev site : Site
  site = delivery.site

  label_told : (t : ℕ) (first : List ℕ) (m : Mark) → IsTrueMark delivery left.contexts contexts t m → (m ≡ mark.Open → IsCause delivery left t why)
      → ((fields : List ℕ) → AreInForce delivery t fields → same_sampling first fields ≡ true) → IsTrueLabel delivery left contexts t (label_by first why m)
  label_told t first mark.Open k if_open same = if_open refl
  label_told t first mark.BeforeFirst k if_open same = k
  label_told t first mark.TimelineFull k if_open same = k
  label_told t first (mark.Lost lost) k if_open same = k
  label_told t first (mark.Bound place fields) k if_open same =
      subst (λ b. IsTrueLabel delivery left contexts t (cond b (label.Bound place fields) (label.Uncertain reason.FormatChanged))) (sym (same fields k.0)) k

  module _ (context number : ℕ) (in_force : IsInForce site (packet_moment site n) context) (divides : DividesInto site n context number)
      (rate : 0 < rate_in (fields_at site context)) (place : ℕ) (first_mark : mark_in line (packet_moment site n) ≡ mark.Bound place (fields_at site context)) where
    abbrev first : List ℕ
    first = fields_at site context

    abbrev labels : ℕ → Label
    labels m = label_at line why (packet_stamp site n) first m

    abbrev moment : ℕ → ℕ
    moment m = sample_moment site n context m

    -- where the packet is known to leave, no sample is open
    known_below : is_known line (shape_in (packet_stamp site n) (site.packet n)) ≡ true → is_below (moment (number - 1)) (horizon_of line) ≡ true
    known_below e =
        sym (ap (is_closed line (shape_in (packet_stamp site n) (site.packet n)) first) divides)
        ∙ sym (ap (is_known_by line (shape_in (packet_stamp site n) (site.packet n))) first_mark) ∙ e

    open_cause : (m : ℕ) → m < number → (known : Bool) → is_known line (shape_in (packet_stamp site n) (site.packet n)) ≡ known
        → mark_in line (moment m) ≡ mark.Open → IsCause delivery left (moment m) why
    open_cause m lt true e is_open =
        let le : moment m ≤ moment (number - 1) = capture_at-le (packet_stamp site n) m (number - 1) (rate_in first) (omega arith) rate in
        absurd (open_above line (moment m) is_open (below_earlier (moment m) (moment (number - 1)) (horizon_of line) le (known_below e)))
    open_cause m lt false e is_open = h.opens (moment m) e (subst (λ (k : Mark). IsTrueMark delivery left.contexts contexts (moment m) k) is_open (h.marks (moment m)))

    label_true : (m : ℕ) → m < number → IsTrueLabel delivery left contexts (moment m) (labels m)
    label_true m lt =
        label_told (moment m) first (mark_in line (moment m)) (h.marks (moment m))
        (open_cause m lt (is_known line (shape_in (packet_stamp site n) (site.packet n))) refl)
        (λ fields k. subst (λ fs. same_sampling first fs ≡ true) (sym k.fields_are) (sampling_test first (fields_at site k.context) (h.steady.steady context number m k.context in_force divides lt k.in_force)))

    abbrev sampled : Sampled
    sampled = record { packet = n; context = context; number = number }

    timed : (from : ℕ) (stretch : ℕ × ℕ) → stretch.0 ≡ from → IsLongest labels number from stretch.1
        → IsTimed delivery sampled from (packet_stamp site n) stretch.0 stretch.1 (capture_at (packet_stamp site n) stretch.0 (rate_in first)) (size_in first)
    timed from stretch f g = record {
      stamp_is = refl;
      first_is = f;
      some = g.some;
      within = omega (arith, f, g.within);
      moment_is = refl;
      bits_are = refl;
    }

    alike_at : (from m : ℕ) (stretch : ℕ × ℕ) (l : Label) → labels from ≡ l → stretch.0 ≡ from → IsLongest labels number from stretch.1 → stretch.0 ≤ m → m < stretch.0 + stretch.1
        → same_label l (labels m) ≡ true
    alike_at from m stretch l e f g le lt = sym (ap (λ x. same_label x (labels m)) e) ∙ g.alike m (omega (arith, f, le)) (omega (arith, f, lt))

    stretch_true : (from : ℕ) (stretch : ℕ × ℕ) (l : Label) → labels from ≡ l → stretch.0 ≡ from → IsLongest labels number from stretch.1
        → IsTrueRun delivery left sampled from (run_by l (packet_stamp site n) first stretch)
    stretch_true from stretch (label.Bound place fields) e f g = (
      timed from stretch f g,
      λ m le lt.
          let here : IsTrueLabel delivery left contexts (moment from) (label.Bound place fields) =
          subst (IsTrueLabel delivery left contexts (moment from)) e (label_true from (omega (arith, g.some, g.within))) in
          alike_bound delivery left contexts (moment m) place fields (labels m) here.1 (alike_at from m stretch (label.Bound place fields) e f g le lt)
          (label_true m (omega (arith, f, lt, g.within))),
    )
    stretch_true from stretch (label.Uncertain cause) e f g = (
      timed from stretch f g,
      λ m le lt.
          alike_uncertain delivery left contexts (moment m) cause (labels m) (alike_at from m stretch (label.Uncertain cause) e f g le lt)
          (label_true m (omega (arith, f, lt, g.within))),
    )

    samples_by : (l : Label) (stretch : ℕ × ℕ) → samples_of (run_by l (packet_stamp site n) first stretch) ≡ stretch.1
    samples_by (label.Bound place fields) stretch = refl
    samples_by (label.Uncertain cause) stretch = refl

    runs_true : (stretches : List (ℕ × ℕ)) (from : ℕ) → AreStretches labels number from stretches
        → AreTrueRuns delivery left sampled from (map (run_at line why (packet_stamp site n) first) stretches)
    runs_true [] from g = g
    runs_true (stretch ∷ stretches) from g = (
      stretch_true from stretch (labels stretch.0) (ap labels (sym g.0)) g.0 g.1,
      subst (λ k. AreTrueRuns delivery left sampled (from + k) (map (run_at line why (packet_stamp site n) first) stretches)) (sym (samples_by (labels stretch.0) stretch))
          (runs_true stretches (from + stretch.1) g.2),
    )

    cut_true : IsTrueCut delivery left n (runs_bound line why (shape_in (packet_stamp site n) (site.packet n)) first (number_of (shape_in (packet_stamp site n) (site.packet n)) (size_in first)))
    cut_true =
        subst (λ o. IsTrueCut delivery left n (runs_bound line why (shape_in (packet_stamp site n) (site.packet n)) first o)) (sym divides) (record {
          context = context;
          in_force = in_force;
          number = number;
          divides = divides;
          runs_are = runs_true (cut labels number) 0 (longest_told labels number);
        })

  -- it leaves whole, or in runs, as the mark of its first sample says
  abbrev IsTrueAs : List Run → Type 0
  IsTrueAs runs = IsTrueRaw delivery left n runs ⊎ IsTrueCut delivery left n runs

  packet_by : (m : Mark) → mark_in line (packet_moment site n) ≡ m → IsTrueMark delivery left.contexts contexts (packet_moment site n) m
      → IsTrueAs (runs_by line why (shape_in (packet_stamp site n) (site.packet n)) m)
  packet_by mark.Open e k = inl (record {
    reason = why;
    runs_are = refl;
    cause = h.opens (packet_moment site n) (ap (is_known_by line (shape_in (packet_stamp site n) (site.packet n))) e) k;
  })
  packet_by mark.BeforeFirst e k = inl (record { reason = reason.BeforeFirst; runs_are = refl; cause = k })
  packet_by mark.TimelineFull e k = inl (record { reason = reason.TimelineFull; runs_are = refl; cause = k })
  packet_by (mark.Lost lost) e k = inl (record { reason = reason.ContextLost lost; runs_are = refl; cause = k })
  packet_by (mark.Bound place fields) e k =
      let force = k.0 in
      let number = h.steady.divides force.context force.in_force in
      let is_first : mark_in line (packet_moment site n) ≡ mark.Bound place (fields_at site force.context) = e ∙ ap (λ fs. mark.Bound place fs) force.fields_are in
      inr (subst (λ fs. IsTrueCut delivery left n (runs_bound line why (shape_in (packet_stamp site n) (site.packet n)) fs (number_of (shape_in (packet_stamp site n) (site.packet n)) (size_in fs)))) (sym force.fields_are)
      (cut_true force.context number.0 force.in_force number.1 (h.rates force.context force.in_force.sent) place is_first))

  pub packet_true : IsTrueAs (runs_of line why (shape_in (packet_stamp site n) (site.packet n)))
  packet_true = packet_by (mark_in line (packet_moment site n)) refl (h.marks (packet_moment site n))
