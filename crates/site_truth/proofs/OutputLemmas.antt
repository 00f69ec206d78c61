-- The outputs of a delivery are true.
use Rattle.std.proofs.Common.{◌≡◌, ◌⊎◌, ℕ, suc, zero, ◌+◌, ◌-◌, ◌<◌, ◌≤◌, ◌&&◌, ◌||◌, nat_le, nat_lt, Bool, true, false, List, [], ◌∷◌, ◌++◌, length, take, drop, get_or, slice_get, Option, Some, None, refl, sym, ap, ◌∙◌, subst, inl, inr, arith, append_assoc, length-append}
use Rattle.std.proofs.lemmas.Bool.{cases_lt, false≢true}
use Rattle.std.proofs.lemmas.Bool.Decides.{nat_tests}
use Rattle.std.proofs.lemmas.List.{append-nil, get_or-take, length-take-le, take-append-le, take-append-drop, take_all}
use Rattle.std.proofs.lemmas.Option.{slice_get_cases}
use Rattle.vrt_header.specs.Profile.{PacketProfile}
use Rattle.context_timeline.specs.State.{state_of, timed_context}
use Rattle.context_timeline.specs.Marks.{mark_in}
use Rattle.context_timeline.specs.declared.timed_context.TimedContext.{TimedContext}
use Rattle.reorder_window.specs.Delivery.{occurs}
use Rattle.vrt_fields.specs.declared.limits.Limits.{Limits}
use Rattle.sample_binder.specs.declared.reason.Reason.TheVariants as reason
use Rattle.sample_binder.specs.Calls.{outputs_of, shape_in}
use Rattle.sample_binder.specs.Due.{is_known, first_below, first_from, may_leave, has_case, has_case_after, due}
use Rattle.sample_binder.specs.Events.{Event, EndEvent, contexts_of, packets_of, has_ended, line_after}
use Rattle.sample_binder.specs.Outputs.{open_reason, leaves_after, leaves_at, leaves, outputs_of_first, outputs}
use Rattle.sample_binder.specs.Parts.{Part, outs_of, outs_of_part}
use Rattle.sample_binder.specs.Pending.{Pending}
use Rattle.sample_binder.specs.Readings.{IsDueEvent}
use Rattle.sample_binder.specs.Runs.{runs_of}
use Rattle.sample_binder.specs.Samples.{rate_in}
use Rattle.sample_binder.proofs.DueLaws.{may_leave-below}
use Rattle.sample_binder.proofs.FirstLaws.{first_below-none_passes}
use Rattle.sample_binder.proofs.LawLemmas.{due_told}
use Rattle.sample_binder.proofs.StateLemmas.{has_ended-append, sampling_of}
use Rattle.site_truth.specs.Site.{IsSite, IsSteady, fields_at, packet_stamp}
use Rattle.site_truth.specs.Delivered.{Delivery, IsDelivered, all_calls, all_events, buffer_of, absent_before}
use Rattle.site_truth.specs.Cause.{Left, AreContextsOf, IsCause}
use Rattle.site_truth.specs.Truth.{IsTruePart, AreTrue}
use Rattle.site_truth.proofs.ListLemmas.{slice_get-front, slice_get-within, slice_get-left, slice_get-end, occurs-at}
use Rattle.site_truth.proofs.MarkLemmas.{AreContextsKnown, NoneOfThemAfter, IsTrueMark, mark_is_true}
use Rattle.site_truth.proofs.RunLemmas.{IsLeaving, packet_true}
use Rattle.site_truth.proofs.ToldLemmas.{packet_told, AreContextsTold, ArePacketsTold, EndsLast, contexts_told, packets_told, ends_last, contexts_first, contexts_fewer, packets_first}

-- ---- the end

whole_list : (n : ℕ) (events : List Event) → length events ≤ n → take n events ≡ events
whole_list n events le = take_all n events le

ended_last : (events : List Event) → EndsLast events → has_ended events ≡ true
ended_last events h = ap has_ended h.last ∙ has_ended-append h.front (EndEvent ∷ []) ∙ by_case (has_ended h.front)
  where
    by_case : (b : Bool) → (b || true) ≡ true
    by_case true = refl
    by_case false = refl

front_off : (m : ℕ) (events : List Event) → has_ended events ≡ false → has_ended (take m events) ≡ false
front_off m events e =
    by_case (has_ended (take m events)) (has_ended (drop m events)) (sym (has_ended-append (take m events) (drop m events)) ∙ ap has_ended (take-append-drop m events) ∙ e)
  where
    by_case : (a b : Bool) → (a || b) ≡ false → a ≡ false
    by_case true b f = f
    by_case false b f = refl

-- only all the events have ended
ended_all : (m : ℕ) (events : List Event) → EndsLast events → has_ended (take m events) ≡ true → length events ≤ m
ended_all m events h e = elim (cases_lt m (length events)) [
  | inl less ↦
      let long = ap length h.last ∙ length-append h.front (EndEvent ∷ []) in
      let short : m ≤ length h.front = omega arith in
      let same : take m events ≡ take m h.front = ap (take m) h.last ∙ take-append-le m h.front (EndEvent ∷ []) short in
      absurd (false≢true (sym (ap has_ended same ∙ front_off m h.front h.once) ∙ e))
  | inr le ↦ le
]

-- ---- every packet is due

or_last : (a b c : Bool) → c ≡ true → (a || b || c) ≡ true
or_last true b c e = refl
or_last false true c e = refl
or_last false false c e = e

at_last : (limits : Limits) (events : List Event) (j : ℕ) → EndsLast events → j < length (packets_of events) → (last : ℕ) → suc last ≡ length events → has_case_after limits events j last ≡ true
at_last limits events j h lt last e =
    let all : take (suc last) events ≡ events = whole_list (suc last) events (omega arith) in
    ap (λ es. has_case limits es j (slice_get (packets_of es) j)) all ∙ elim (slice_get_cases (packets_of events) j).1 [
      | inl p ↦
          ap (has_case limits events j) p.2
          ∙ or_last (is_known (line_after limits.kept events) p.0.shape) (nat_lt (j + limits.pending) (length (packets_of events))) (has_ended events) (ended_last events h)
      | inr none ↦ absurd (omega (arith, none.0))
    ]

there_is : (o : Option ℕ) → ((d : ℕ) × (o ≡ Some d)) ⊎ (o ≡ None)
there_is (Some d) = inl (d, refl)
there_is None = inr refl

passes_here : (d e : ℕ) (p : Bool) → d ≤ e → p ≡ true → (nat_le d e && p) ≡ true
passes_here d e p le h = grind (arith, nat_tests)

found : (passes : ℕ → Bool) (n d last : ℕ) → suc last ≡ n → d ≤ last → passes last ≡ true → (e : ℕ) × (first_from passes n (Some d) ≡ Some e)
found passes n d last e le h = elim (there_is (first_below (λ k. nat_le d k && passes k) n)) [
  | inl t ↦ t
  | inr none ↦ absurd (false≢true (sym (first_below-none_passes (λ k. nat_le d k && passes k) n none last (omega arith)) ∙ passes_here d last (passes last) le h))
]

all_may_leave : (limits : Limits) (events : List Event) (last : ℕ) → suc last ≡ length events → EndsLast events → (j : ℕ) → j ≤ length (packets_of events)
    → (d : ℕ) × (d ≤ last) × (may_leave (has_case_after limits events) (length events) j ≡ Some d)
all_may_leave limits events last e h zero le = (0, omega arith, refl)
all_may_leave limits events last e h (suc j) le =
    let before = all_may_leave limits events last e h j (omega arith) in
    let f = found (has_case_after limits events j) (length events) before.0 last e before.1 (at_last limits events j h (omega arith) last e) in
    let is : may_leave (has_case_after limits events) (length events) (suc j) ≡ Some f.0 = ap (first_from (has_case_after limits events j) (length events)) before.2 ∙ f.1 in
    let below = may_leave-below (has_case_after limits events) (length events) j f.0 is in
    (f.0, omega arith, is)

all_due : (limits : Limits) (events : List Event) → EndsLast events → (j : ℕ) → j < length (packets_of events) → (e : ℕ) × (due limits events j ≡ Some e)
all_due limits events h j lt =
    let long = ap length h.last ∙ length-append h.front (EndEvent ∷ []) in
    let r = all_may_leave limits events (length h.front) (omega arith) h (suc j) lt in
    (r.0, r.2)

-- ---- one packet

not_known : (known full ended : Bool) → (known || full || ended) ≡ true → known ≡ false → ended ≡ false → full ≡ true
not_known known full ended e f g = grind (arith, nat_tests)

lt_of : (m n : ℕ) → nat_lt m n ≡ true → m < n
lt_of m n e = grind (arith, nat_tests)

none_is : (limits : Limits) (events : List Event) (j : ℕ) (o : Option Pending) → has_case limits events j o ≡ true → (p : Pending) × (o ≡ Some p)
none_is limits events j None e = absurd (false≢true e)
none_is limits events j (Some p) e = (p, refl)

-- what is given of the delivery
pub record IsGivenTrue (delivery : Delivery) : Type 0 where
  pub known : AreContextsKnown delivery
  pub contexts : AreContextsTold delivery
  pub packets : ArePacketsTold delivery
  pub ends : EndsLast (all_events delivery)
  pub steady : (n : ℕ) → occurs n delivery.packets ≡ true → IsSteady delivery.site n
  pub rates : (k : ℕ) → k < delivery.site.contexts_sent → 0 < rate_in (fields_at delivery.site k)

-- a packet that leaves, true in all
record IsTrueLeave (delivery : Delivery) (contexts packets : List ℕ) (j : ℕ) : Type 0 where
  pub part : Part
  pub leaves_as : leaves delivery.limits (all_events delivery) j ≡ outs_of_part part
  pub is_true : IsTruePart delivery contexts packets j part

module _ (delivery : Delivery) (h : IsGivenTrue delivery) where
  abbrev events : List Event
  events = all_events delivery

  abbrev kept : ℕ
  kept = delivery.limits.kept

  abbrev contexts : List ℕ
  contexts = h.contexts.numbers

  abbrev packets : List ℕ
  packets = h.packets.numbers

  module _ (j : ℕ) (lt : j < length packets) (e : ℕ) (is_due : due delivery.limits events j ≡ Some e) where
    abbrev seen : List Event
    seen = take (suc e) events

    abbrev c : ℕ
    c = length (contexts_of seen)

    abbrev left : Left
    left = record { contexts = take c contexts; later = length (packets_of seen) - (j + 1) }

    abbrev n : ℕ
    n = get_or packets j 0

    few : c ≤ length contexts
    few = omega (arith, contexts_fewer (suc e) events, h.contexts.long)

    marks : (t : ℕ) → IsTrueMark delivery left.contexts (contexts_of seen) t (mark_in (line_after kept seen) t)
    marks t =
        subst (λ (cs : List TimedContext). IsTrueMark delivery left.contexts cs t (mark_in (state_of kept cs) t)) (sym (contexts_first (suc e) events))
        (mark_is_true delivery h.known h.contexts c few t)

    case : IsDueEvent delivery.limits events j e
    case = (due_told delivery.limits events j e).0 is_due

    there : (p : Pending) × (slice_get (packets_of seen) j ≡ Some p)
    there = none_is delivery.limits seen j (slice_get (packets_of seen) j) case.has_case

    within : j < length (packets_of seen)
    within = slice_get-within (packets_of seen) j there.0 there.1

    told : slice_get (packets_of seen) j ≡ Some (packet_told delivery packets j)
    told =
        ap (λ ps. slice_get ps j) (packets_first (suc e) events) ∙ slice_get-front (length (packets_of seen)) (packets_of events) j within
        ∙ h.packets.each j lt

    ended_cause : (t : ℕ) → has_ended seen ≡ true → NoneOfThemAfter delivery left.contexts t → IsCause delivery left t reason.Ended
    ended_cause t on none k arrived =
        let all : length events ≤ suc e = ended_all (suc e) events h.ends on in
        let same : contexts_of seen ≡ contexts_of events = ap contexts_of (whole_list (suc e) events all) in
        let whole : c ≡ length contexts = ap length same ∙ h.contexts.long in
        let p = h.contexts.in_order.all k arrived in
        let long : length (take c contexts) ≡ c = length-take-le c contexts few in
        let at : get_or (take c contexts) p.0 0 ≡ k = get_or-take c contexts p.0 0 (omega (arith, p.1, whole)) ∙ p.2 in
        none k (subst (λ m. occurs m (take c contexts) ≡ true) at (occurs-at (take c contexts) p.0 (omega (arith, p.1, whole, long))))

    full_cause : (t : ℕ) → has_ended seen ≡ false → is_known (line_after kept seen) (shape_in (packet_stamp delivery.site n) (delivery.site.packet n)) ≡ false
        → NoneOfThemAfter delivery left.contexts t → IsCause delivery left t reason.PendingFull
    full_cause t off unknown none =
        let has : has_case delivery.limits seen j (Some (packet_told delivery packets j)) ≡ true = sym (ap (has_case delivery.limits seen j) told) ∙ case.has_case in
        let full = not_known (is_known (line_after kept seen) (shape_in (packet_stamp delivery.site n) (delivery.site.packet n))) (nat_lt (j + delivery.limits.pending) (length (packets_of seen))) (has_ended seen) has unknown off in
        let many : j + delivery.limits.pending < length (packets_of seen) = lt_of (j + delivery.limits.pending) (length (packets_of seen)) full in
        record { later = omega arith; none_after = none }

    opens : (t : ℕ) (ended : Bool) → has_ended seen ≡ ended → is_known (line_after kept seen) (shape_in (packet_stamp delivery.site n) (delivery.site.packet n)) ≡ false
        → NoneOfThemAfter delivery left.contexts t → IsCause delivery left t (open_reason ended)
    opens t true f unknown none = ended_cause t f none
    opens t false f unknown none = full_cause t f unknown none

    leaving : IsLeaving delivery left n (contexts_of seen) (line_after kept seen) (open_reason (has_ended seen))
    leaving = record {
      marks = marks;
      opens = λ t unknown none. opens t (has_ended seen) refl unknown none;
      steady = h.steady n (h.packets.in_order.inside j lt);
      rates = h.rates;
    }

    released : AreContextsOf delivery left.contexts (contexts_of seen)
    released = record {
      long = sym (length-take-le c contexts few);
      each = λ i there. let inside : i < c = omega (arith, there, length-take-le c contexts few) in (
        absent_before delivery.contexts contexts i,
        ap (λ cs. slice_get cs i) (contexts_first (suc e) events) ∙ slice_get-front c (contexts_of events) i inside ∙ h.contexts.each i (omega (arith, few))
            ∙ ap (λ k. Some (timed_context (delivery.site.context k) (absent_before delivery.contexts contexts i))) (sym (get_or-take c contexts i 0 inside)),
      );
    }

    abbrev part : Part
    part = record {
      buf = buffer_of delivery n;
      lost = absent_before delivery.packets packets j;
      runs = runs_of (line_after kept seen) (open_reason (has_ended seen)) (shape_in (packet_stamp delivery.site n) (delivery.site.packet n));
    }

    true_leave : IsTrueLeave delivery contexts packets j
    true_leave = record {
      part = part;
      leaves_as = ap (leaves_at delivery.limits events j) is_due ∙ ap (leaves_after kept seen) told;
      is_true = record {
        buf = refl;
        lost = refl;
        left = left;
        is_left = record { event = e; is_due = is_due; contexts_then = refl; are_released = released; packets_then = omega (arith, within) };
        runs = packet_true delivery left n (contexts_of seen) (line_after kept seen) (open_reason (has_ended seen)) leaving;
      };
    }

  -- ---- all packets

  outs_append : (xs ys : List Part) → outs_of (xs ++ ys) ≡ outs_of xs ++ outs_of ys
  outs_append [] ys = refl
  outs_append (x ∷ xs) ys = ap (λ os. outs_of_part x ++ os) (outs_append xs ys) ∙ sym (append_assoc (outs_of_part x) (outs_of xs) (outs_of ys))

  record AreFirstTrue (count : ℕ) : Type 0 where
    pub parts : List Part
    pub outs_are : outputs_of_first delivery.limits events count ≡ outs_of parts
    pub long : length parts ≡ count
    pub each : (i : ℕ) (part : Part) → slice_get parts i ≡ Some part → IsTruePart delivery contexts packets i part

  first_true : (count : ℕ) → count ≤ length packets → AreFirstTrue count
  first_true zero le = record { parts = []; outs_are = refl; long = refl; each = λ i part e. absurd (let lt = slice_get-within [] i part e in omega (arith, lt)) }
  first_true (suc j) le =
      let before = first_true j (omega arith) in
      let d = all_due delivery.limits events h.ends j (omega (arith, h.packets.long)) in
      let one = true_leave j le d.0 d.1 in
      record {
        parts = before.parts ++ one.part ∷ [];
        outs_are = ap (λ os. os ++ leaves delivery.limits events j) before.outs_are ∙ ap (λ os. outs_of before.parts ++ os) (one.leaves_as ∙ sym (append-nil (outs_of_part one.part)))
            ∙ sym (outs_append before.parts (one.part ∷ []));
        long = omega (arith, length-append before.parts (one.part ∷ []), before.long);
        each = λ i part e. elim (cases_lt i (length before.parts)) [
          | inl early ↦ before.each i part (sym (slice_get-left before.parts (one.part ∷ []) i early) ∙ e)
          | inr late ↦
              let there = slice_get-within (before.parts ++ one.part ∷ []) i part e in
              let last : i ≡ length before.parts = omega (arith, there, length-append before.parts (one.part ∷ [])) in
              let same : one.part ≡ part = let f = sym (slice_get-end before.parts one.part i last) ∙ e in cc in
              let place : j ≡ i = omega (arith, before.long) in
              subst (λ (k : ℕ). IsTruePart delivery contexts packets k part) place (subst (IsTruePart delivery contexts packets j) same one.is_true)
        ];
      }

  outputs_true : AreTrue delivery (outputs delivery.limits events)
  outputs_true =
      let all = first_true (length packets) (omega arith) in
      record {
        contexts = contexts;
        contexts_arrived = h.contexts.in_order;
        packets = packets;
        packets_arrived = h.packets.in_order;
        parts = all.parts;
        outs_are = ap (outputs_of_first delivery.limits events) h.packets.long ∙ all.outs_are;
        once = all.long;
        each = all.each;
      }

pub given_true : (profile : PacketProfile) (most : ℕ) (delivery : Delivery) → IsSite profile most delivery.site → IsDelivered delivery → IsGivenTrue delivery
given_true profile most delivery s d = record {
  known = record {
    start = s.first_context;
    sent = s.contexts;
    unchanged = s.unchanged;
    within = d.contexts.sent;
    kept = d.limits.least_kept;
  };
  contexts = contexts_told profile most delivery s d;
  packets = packets_told profile most delivery s d;
  ends = ends_last delivery d;
  steady = λ n e. s.are_steady n (d.packets.sent n e);
  rates = λ k lt. let r = sampling_of (delivery.site.context k) (record { profile = profile; spelled = s.are_contexts k lt }) in omega (arith, r.least);
}

pub outputs_are_true : (profile : PacketProfile) (most : ℕ) (delivery : Delivery) → IsSite profile most delivery.site → IsDelivered delivery
    → AreTrue delivery (outputs_of delivery.limits (all_calls delivery))
outputs_are_true profile most delivery s d = outputs_true delivery (given_true profile most delivery s d)
