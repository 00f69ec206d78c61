-- What follows where outputs are true.
use Rattle.std.proofs.Common.{◌≡◌, ◌⊎◌, ℕ, suc, zero, ◌+◌, ◌-◌, ◌<◌, ◌≤◌, nat_lt, not, Bool, true, false, cond, List, [], ◌∷◌, length, take, filter, get_or, slice_get, Some, refl, sym, ap, ◌∙◌, subst, inl, inr, arith}
use Rattle.std.proofs.lemmas.Bool.{cases_lt, false≢true}
use Rattle.std.proofs.lemmas.Option.{slice_get_cases}
use Rattle.std.specs.List.{range_with_len}
use Rattle.vrt_time.specs.Time.{moment_of}
use Rattle.vrt_header.specs.Profile.{PacketProfile}
use Rattle.vrt_words.specs.Buffer.{Buffer}
use Rattle.context_timeline.specs.State.{IsRising}
use Rattle.reorder_window.specs.Delivery.{occurs, number_absent}
use Rattle.reorder_window.proofs.OrderLemmas.{ltb-false}
use Rattle.sample_binder.specs.declared.out.Out.{Out}
use Rattle.sample_binder.specs.declared.reason.Reason.{Reason}
use Rattle.sample_binder.specs.declared.reason.Reason.TheVariants as reason
use Rattle.sample_binder.specs.declared.out.Run.{Run}
use Rattle.sample_binder.specs.declared.out.Run.TheVariants as run
use Rattle.sample_binder.specs.Calls.{data_stamp, outputs_of}
use Rattle.sample_binder.specs.Events.{contexts_of}
use Rattle.sample_binder.specs.Parts.{Part, samples_of}
use Rattle.site_truth.specs.Site.{Site, IsSite, IsInForce, DividesInto, context_moment, packet_moment, sample_moment}
use Rattle.site_truth.specs.Delivered.{Delivery, IsDelivered, AreInOrder, all_calls, all_events, buffer_of}
use Rattle.site_truth.specs.Cause.{Left, IsLeft, IsCause}
use Rattle.site_truth.specs.Truth.{AreInForce, Sampled, IsTrueRun, AreTrueRuns, IsTrueRaw, IsTrueCut, AreTrue}
use Rattle.site_truth.specs.Consequences.{Tells, Binds, IsToldOnce, IsRawPart, IsCutPart, LeavesOnce, IsBoundIn, IsKnown, IsUnlost, IsWithin}
use Rattle.site_truth.proofs.ListLemmas.{slice_get-within}
use Rattle.site_truth.proofs.ToldLemmas.{packets_told, packets_fewer}
use Rattle.site_truth.proofs.OutputLemmas.{outputs_are_true}

-- ---- one context is in force

pub in_force_one : (site : Site) (t j k : ℕ) → IsInForce site t j → IsInForce site t k → j ≡ k
in_force_one site t j k a b = elim (cases_lt j k) [
  | inl less ↦ let r = a.last k less b.sent in absurd (omega (arith, r, b.reached))
  | inr le ↦ elim (cases_lt k j) [
    | inl less ↦ let r = b.last j less a.sent in absurd (omega (arith, r, a.reached))
    | inr ge ↦ omega arith
  ]
]

-- ---- each sample in one run

module _ (delivery : Delivery) (left : Left) (sampled : Sampled) where
  -- a true run tells the samples from the one that it begins with on
  tells_from : (from : ℕ) (r : Run) (m : ℕ) → IsTrueRun delivery left sampled from r → Tells r m → (from ≤ m) × (m < from + samples_of r)
  tells_from from (run.Bound stamp first number moment fields bits) m h t = (omega (arith, h.0.first_is, t.0), omega (arith, h.0.first_is, t.1))
  tells_from from (run.Uncertain why stamp first number moment bits) m h t = (omega (arith, h.0.first_is, t.0), omega (arith, h.0.first_is, t.1))
  tells_from from (run.Raw why stamp pad) m h t = absurd h

  from_tells : (from : ℕ) (r : Run) (m : ℕ) → IsTrueRun delivery left sampled from r → from ≤ m → m < from + samples_of r → Tells r m
  from_tells from (run.Bound stamp first number moment fields bits) m h le lt = (omega (arith, h.0.first_is), omega (arith, h.0.first_is))
  from_tells from (run.Uncertain why stamp first number moment bits) m h le lt = (omega (arith, h.0.first_is), omega (arith, h.0.first_is))
  from_tells from (run.Raw why stamp pad) m h le lt = absurd h

  -- one of the runs, where it begins
  pub run_at_place : (runs : List Run) (from : ℕ) → AreTrueRuns delivery left sampled from runs → (i : ℕ) (r : Run) → slice_get runs i ≡ Some r
      → (start : ℕ) × (from ≤ start) × IsTrueRun delivery left sampled start r
  run_at_place [] from h zero r e = absurd (cc)
  run_at_place [] from h (suc i) r e = absurd (cc)
  run_at_place (x ∷ xs) from h zero r e = let same : x ≡ r = cc in (from, omega arith, subst (IsTrueRun delivery left sampled from) same h.0)
  run_at_place (x ∷ xs) from h (suc i) r e = let p = run_at_place xs (from + samples_of x) h.1 i r e in (p.0, omega (arith, p.1), p.2)

  told_later : (runs : List Run) (from : ℕ) → AreTrueRuns delivery left sampled from runs → (i : ℕ) (r : Run) → slice_get runs i ≡ Some r → (m : ℕ) → Tells r m → from ≤ m
  told_later runs from h i r e m t = let p = run_at_place runs from h i r e in let q = tells_from p.0 r m p.2 t in omega (arith, p.1, q.0)

  pub told_once : (runs : List Run) (from : ℕ) → AreTrueRuns delivery left sampled from runs → (m : ℕ) → from ≤ m → m < sampled.number → IsToldOnce runs m
  told_once [] from h m le lt = absurd (omega (arith, h))
  told_once (x ∷ xs) from h m le lt = elim (cases_lt m (from + samples_of x)) [
    | inl here ↦ record {
      place = 0;
      run = x;
      there = refl;
      tells = from_tells from x m h.0 le here;
      only = λ other another e t. first_only other another e t here;
    }
    | inr later ↦
        let r = told_once xs (from + samples_of x) h.1 m later lt in
        record {
          place = suc r.place;
          run = r.run;
          there = r.there;
          tells = r.tells;
          only = λ other another e t. later_only r other another e t later;
        }
  ]
    where
      first_only : (other : ℕ) (another : Run) → slice_get (x ∷ xs) other ≡ Some another → Tells another m → m < from + samples_of x → other ≡ 0
      first_only zero another e t here = refl
      first_only (suc i) another e t here = let past = told_later xs (from + samples_of x) h.1 i another e m t in absurd (omega (arith, past))

      later_only : (r : IsToldOnce xs m) (other : ℕ) (another : Run) → slice_get (x ∷ xs) other ≡ Some another → Tells another m → from + samples_of x ≤ m → other ≡ suc r.place
      later_only r zero another e t past =
          let same : x ≡ another = cc in
          let q = tells_from from x m h.0 (subst (λ (y : Run). Tells y m) (sym same) t) in absurd (omega (arith, q.1))
      later_only r (suc i) another e t past = ap suc (r.only i another e t)

  -- a bound sample is in force
  bound_at : (start : ℕ) (r : Run) (m : ℕ) → IsTrueRun delivery left sampled start r → Binds r m
      → (fields : List ℕ) × AreInForce delivery (sample_moment delivery.site sampled.packet sampled.context m) fields
  bound_at start (run.Bound stamp first number moment fields bits) m h b = (fields, h.1 m b.0 b.1)
  bound_at start (run.Uncertain why stamp first number moment bits) m h b = absurd b
  bound_at start (run.Raw why stamp pad) m h b = absurd b

  pub bound_known : (runs : List Run) (from : ℕ) → AreTrueRuns delivery left sampled from runs → (i : ℕ) (r : Run) → slice_get runs i ≡ Some r → (m : ℕ) → Binds r m
      → (k : ℕ) → IsInForce delivery.site (sample_moment delivery.site sampled.packet sampled.context m) k → IsKnown delivery k
  bound_known runs from h i r e m b k f =
      let p = run_at_place runs from h i r e in
      let a = bound_at p.0 r m p.2 b in
      let same : a.1.context ≡ k = in_force_one delivery.site (sample_moment delivery.site sampled.packet sampled.context m) a.1.context k a.1.in_force f in
      subst (IsKnown delivery) same a.1.known

  -- a sample without a cause is bound
  binds_by : (start : ℕ) (r : Run) (m : ℕ) → IsTrueRun delivery left sampled start r → Tells r m
      → ((why : Reason) → IsCause delivery left (sample_moment delivery.site sampled.packet sampled.context m) why → ⊥) → Binds r m
  binds_by start (run.Bound stamp first number moment fields bits) m h t none = t
  binds_by start (run.Uncertain why stamp first number moment bits) m h t none = absurd (none why (h.1 m t.0 t.1))
  binds_by start (run.Raw why stamp pad) m h t none = absurd t

-- ---- numbers in order

pub not_below : (numbers : List ℕ) → IsRising numbers → (i : ℕ) → i < length numbers → i ≤ get_or numbers i 0
not_below numbers h zero lt = omega arith
not_below numbers h (suc i) lt = let r = not_below numbers h i (omega arith) in let s = h.rising i (suc i) (omega arith) lt in omega (arith, r, s)

-- no more arrive than are sent
few_numbers : (arrived numbers : List ℕ) (total : ℕ) → AreInOrder arrived numbers → ((k : ℕ) → occurs k arrived ≡ true → k < total) → length numbers ≤ total
few_numbers arrived numbers total h within = elim (cases_lt total (length numbers)) [
  | inl more ↦
      let last = not_below numbers h.rising total more in
      let sent = within (get_or numbers total 0) (h.inside total more) in
      absurd (omega (arith, last, sent))
  | inr le ↦ le
]

same_place : (arrived numbers : List ℕ) → AreInOrder arrived numbers → (i j : ℕ) → i < length numbers → j < length numbers → get_or numbers i 0 ≡ get_or numbers j 0 → i ≡ j
same_place arrived numbers h i j a b e = elim (cases_lt i j) [
  | inl less ↦ let r = h.rising.rising i j less b in absurd (omega (arith, r, e))
  | inr le ↦ elim (cases_lt j i) [
    | inl less ↦ let r = h.rising.rising j i less a in absurd (omega (arith, r, e))
    | inr ge ↦ omega arith
  ]
]

-- packets of different numbers have different stamps
one_number : (profile : PacketProfile) (most : ℕ) (delivery : Delivery) → IsSite profile most delivery.site → (m n : ℕ) → m < delivery.site.packets_sent → n < delivery.site.packets_sent
    → buffer_of delivery m ≡ buffer_of delivery n → m ≡ n
one_number profile most delivery s m n a b e =
    let same : packet_moment delivery.site m ≡ packet_moment delivery.site n = ap (λ (x : Buffer). moment_of (data_stamp x.bytes)) e in
    elim (cases_lt m n) [
      | inl less ↦ let r : packet_moment delivery.site m < packet_moment delivery.site n = s.packets.rising m n less b in absurd (omega (arith, r, same))
      | inr le ↦ elim (cases_lt n m) [
        | inl less ↦ let r : packet_moment delivery.site n < packet_moment delivery.site m = s.packets.rising n m less a in absurd (omega (arith, r, same))
        | inr ge ↦ omega arith
      ]
    ]

-- ---- each packet once

part_samples : (delivery : Delivery) (left : Left) (n : ℕ) (part : Part) → IsTrueRaw delivery left n part.runs ⊎ IsTrueCut delivery left n part.runs
    → IsRawPart delivery n part ⊎ IsCutPart delivery n part
part_samples delivery left n part h = elim h [
  | inl raw ↦ inl (raw.reason, raw.runs_are)
  | inr cut ↦ inr (
    cut.context,
    cut.number,
    cut.in_force,
    cut.divides,
    λ m lt. told_once delivery left (record { packet = n; context = cut.context; number = cut.number }) part.runs 0 cut.runs_are m (omega arith) lt,
  )
]

pub leaves_once : (profile : PacketProfile) (most : ℕ) (delivery : Delivery) (n : ℕ) → IsSite profile most delivery.site → IsDelivered delivery → occurs n delivery.packets ≡ true
    → LeavesOnce delivery (outputs_of delivery.limits (all_calls delivery)) n
leaves_once profile most delivery n s d e =
    let truth = outputs_are_true profile most delivery s d in
    let p = truth.packets_arrived.all n e in
    elim (slice_get_cases truth.parts p.0).1 [
      | inl x ↦
          let t = truth.each p.0 x.0 x.2 in
          record {
            parts = truth.parts;
            outs_are = truth.outs_are;
            place = p.0;
            part = x.0;
            there = x.2;
            buf = t.buf ∙ ap (buffer_of delivery) p.2;
            only = λ other another there buf.
                let u = truth.each other another there in
                let within : other < length truth.packets = omega (arith, slice_get-within truth.parts other another there, truth.once) in
                let sent = d.packets.sent (get_or truth.packets other 0) (truth.packets_arrived.inside other within) in
                let same = one_number profile most delivery s (get_or truth.packets other 0) n sent (d.packets.sent n e) (sym u.buf ∙ buf) in
                same_place delivery.packets truth.packets truth.packets_arrived other p.0 within p.1 (same ∙ sym p.2);
            samples = part_samples delivery t.left n x.0 (subst (λ k. IsTrueRaw delivery t.left k x.0.runs ⊎ IsTrueCut delivery t.left k x.0.runs) p.2 t.runs);
          }
      | inr none ↦ absurd (omega (arith, none.0, truth.once, p.1))
    ]

-- ---- no sample is bound to a context that is not known

single : (x r : Run) (i : ℕ) → slice_get (x ∷ []) i ≡ Some r → x ≡ r
single x r zero e = cc
single x r (suc zero) e = absurd (cc)
single x r (suc (suc i)) e = absurd (cc)

pub bound_is_known : (delivery : Delivery) (outs : List Out) (truth : AreTrue delivery outs) (j : ℕ) (part : Part) → slice_get truth.parts j ≡ Some part
    → (i : ℕ) (r : Run) → slice_get part.runs i ≡ Some r → (m : ℕ) → Binds r m
    → (context k : ℕ) → IsInForce delivery.site (packet_moment delivery.site (get_or truth.packets j 0)) context
    → IsInForce delivery.site (sample_moment delivery.site (get_or truth.packets j 0) context m) k → IsKnown delivery k
bound_is_known delivery outs truth j part there i r e m b context k f g =
    let n = get_or truth.packets j 0 in
    let t = truth.each j part there in
    elim t.runs [
      | inl raw ↦
          let same : run.Raw raw.reason _ _ ≡ r = single _ r i (sym (ap (λ rs. slice_get rs i) raw.runs_are) ∙ e) in
          absurd (subst (λ (x : Run). Binds x m) (sym same) b)
      | inr cut ↦
          let one : context ≡ cut.context = in_force_one delivery.site (packet_moment delivery.site n) context cut.context f cut.in_force in
          bound_known delivery t.left (record { packet = n; context = cut.context; number = cut.number }) part.runs 0 cut.runs_are i r e m b k
          (subst (λ c. IsInForce delivery.site (sample_moment delivery.site n c m) k) one g)
    ]

-- ---- where nothing is lost

count_most : (p : Bool) (x : ℕ) (xs : List ℕ) (n : ℕ) → length xs ≤ n → length (cond p (x ∷ xs) xs) ≤ suc n
count_most true x xs n le = omega arith
count_most false x xs n le = omega arith

pass_most : (p : ℕ → Bool) (xs : List ℕ) → length (filter p xs) ≤ length xs
pass_most p [] = omega arith
pass_most p (x ∷ xs) = count_most (p x) x (filter p xs) (length xs) (pass_most p xs)

count_off : (p : Bool) (x : ℕ) (xs : List ℕ) → p ≡ false → length (cond p (x ∷ xs) xs) ≡ length xs
count_off true x xs e = absurd (false≢true (sym e))
count_off false x xs e = refl

-- the first does not pass
first_off : (p : ℕ → Bool) (xs : List ℕ) → 0 < length xs → p (get_or xs 0 0) ≡ false → length (filter p xs) < length xs
first_off p [] lt e = absurd (omega arith)
first_off p (x ∷ xs) lt e = omega (arith, count_off (p x) x (filter p xs) e, pass_most p xs)

first_of_take : (c : ℕ) (xs : List ℕ) → 0 < c → get_or (take c xs) 0 0 ≡ get_or xs 0 0
first_of_take zero xs lt = absurd (omega arith)
first_of_take (suc c) [] lt = refl
first_of_take (suc c) (x ∷ xs) lt = refl

take_few : (c : ℕ) (xs : List ℕ) → length (take c xs) ≤ length xs
take_few zero xs = omega arith
take_few (suc c) [] = omega arith
take_few (suc c) (x ∷ xs) = let r = take_few c xs in omega arith

no_neighbours : (order : List ℕ) (a b : ℕ) → a < b → ((m : ℕ) → a < m → m < b → ⊥) → number_absent order a b ≡ 0
no_neighbours order a b lt none = elim (cases_lt (a + 1) b) [
  | inl between ↦ absurd (none (a + 1) (omega arith) between)
  | inr le ↦ let empty : b - a - 1 ≡ 0 = omega arith in ap (λ n. length (filter (λ m. not (occurs m order)) (range_with_len (a + 1) n))) empty
]

module _ (profile : PacketProfile) (most : ℕ) (delivery : Delivery) (s : IsSite profile most delivery.site) (d : IsDelivered delivery) (u : IsUnlost delivery) where
  -- between the first and the last context no reason has a cause
  no_cause : (contexts : List ℕ) (j : ℕ) (left : Left) → AreInOrder delivery.contexts contexts → IsLeft delivery contexts j left → 0 < delivery.site.contexts_sent
      → (t : ℕ) → context_moment delivery.site 0 ≤ t → t < context_moment delivery.site (delivery.site.contexts_sent - 1)
      → (why : Reason) → IsCause delivery left t why → ⊥
  no_cause contexts j left h l some t from before (reason.ContextLost n) c =
      let sent = d.contexts.sent c.b c.b_arrived in
      let none : number_absent delivery.contexts c.a c.b ≡ 0 = no_neighbours delivery.contexts c.a c.b c.ordered (λ m above below.
      false≢true (sym (c.neighbours m above below) ∙ u.contexts m (omega (arith, sent)))) in
      omega (arith, c.absent, c.some, none)
  no_cause contexts j left h l some t from before reason.BeforeFirst c = let r = c 0 (u.contexts 0 some) in omega (arith, r)
  no_cause contexts j left h l some t from before reason.TimelineFull c =
      let p : ℕ → Bool = λ k. nat_lt t (context_moment delivery.site k) in
      let zero_place = h.all 0 (u.contexts 0 some) in
      let at_zero = not_below contexts h.rising zero_place.0 zero_place.1 in
      let is_zero : get_or contexts 0 0 ≡ 0 = let none : zero_place.0 ≡ 0 = omega (arith, at_zero, zero_place.2) in ap (λ i. get_or contexts i 0) (sym none) ∙ zero_place.2 in
      let total = few_numbers delivery.contexts contexts delivery.site.contexts_sent h d.contexts.sent in
      let few = take_few (length (contexts_of (take (suc l.event) (all_events delivery)))) contexts in
      let size : length left.contexts ≤ length contexts = omega (arith, ap length l.contexts_then, few) in
      elim (cases_lt 0 (length left.contexts)) [
        | inl there ↦
            let first : get_or left.contexts 0 0 ≡ 0 =
            ap (λ xs. get_or xs 0 0) l.contexts_then ∙ first_of_take (length (contexts_of (take (suc l.event) (all_events delivery)))) contexts (front_some (length (contexts_of (take (suc l.event) (all_events delivery)))) contexts (omega (arith, ap length l.contexts_then, there))) ∙ is_zero in
            let off : p (get_or left.contexts 0 0) ≡ false = ap p first ∙ ltb-false t (context_moment delivery.site 0) from in
            let less = first_off p left.contexts there off in
            omega (arith, c, less, size, total, u.kept)
        | inr none ↦ let all = pass_most p left.contexts in omega (arith, c, all, none, d.limits.least_kept)
      ]
    where
      front_some : (c : ℕ) (xs : List ℕ) → 0 < length (take c xs) → 0 < c
      front_some zero xs lt = absurd (omega arith)
      front_some (suc c) xs lt = omega arith
  no_cause contexts j left h l some t from before reason.PendingFull c =
      let told = packets_told profile most delivery s d in
      let total = few_numbers delivery.packets told.numbers delivery.site.packets_sent told.in_order d.packets.sent in
      let seen = packets_fewer (suc l.event) (all_events delivery) in
      omega (arith, c.later, l.packets_then, seen, told.long, total, u.pending)
  no_cause contexts j left h l some t from before reason.Ended c =
      let r = c (delivery.site.contexts_sent - 1) (u.contexts (delivery.site.contexts_sent - 1) (omega arith)) in omega (arith, r)
  no_cause contexts j left h l some t from before reason.FormatChanged c = c
  no_cause contexts j left h l some t from before reason.Shape c = c

  pub all_bound : (n context number m : ℕ) → IsWithin delivery n context number m → IsBoundIn delivery (outputs_of delivery.limits (all_calls delivery)) n m
  all_bound n context number m w =
      let truth = outputs_are_true profile most delivery s d in
      let p = truth.packets_arrived.all n (u.packets n w.sent) in
      let some : 0 < delivery.site.contexts_sent = omega (arith, w.in_force.sent) in
      elim (slice_get_cases truth.parts p.0).1 [
        | inl x ↦
            let t = truth.each p.0 x.0 x.2 in
            let none = no_cause truth.contexts p.0 t.left truth.contexts_arrived t.is_left some in
            elim (subst (λ k. IsTrueRaw delivery t.left k x.0.runs ⊎ IsTrueCut delivery t.left k x.0.runs) p.2 t.runs) [
              | inl raw ↦ absurd (none (packet_moment delivery.site n) w.from_first (omega (arith, w.before_last)) raw.reason raw.cause)
              | inr cut ↦
                  let one : cut.context ≡ context = in_force_one delivery.site (packet_moment delivery.site n) cut.context context cut.in_force w.in_force in
                  let divides : Some cut.number ≡ Some number = sym cut.divides ∙ subst (λ c. DividesInto delivery.site n c number) (sym one) w.divides in
                  let same : cut.number ≡ number = cc in
                  let sampled : Sampled = record { packet = n; context = cut.context; number = cut.number } in
                  let told = told_once delivery t.left sampled x.0.runs 0 cut.runs_are m (omega arith) (omega (arith, same, w.sample)) in
                  let place = run_at_place delivery t.left sampled x.0.runs 0 cut.runs_are told.place told.run told.there in
                  let before : sample_moment delivery.site n cut.context m < context_moment delivery.site (delivery.site.contexts_sent - 1) =
                  subst (λ c. sample_moment delivery.site n c m < context_moment delivery.site (delivery.site.contexts_sent - 1)) (sym one) w.before_last in
                  record {
                    parts = truth.parts;
                    outs_are = truth.outs_are;
                    place = p.0;
                    part = x.0;
                    there = x.2;
                    buf = t.buf ∙ ap (buffer_of delivery) p.2;
                    at = told.place;
                    run = told.run;
                    run_there = told.there;
                    binds = binds_by delivery t.left sampled place.0 told.run m place.2 told.tells
                        (none (sample_moment delivery.site n cut.context m) (omega (arith, w.from_first)) before);
                  }
            ]
        | inr none ↦ absurd (omega (arith, none.0, truth.once, p.1))
      ]
