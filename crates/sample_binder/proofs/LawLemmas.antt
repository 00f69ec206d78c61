-- The definitions in other words.
use Rattle.std.proofs.Common.{◌≡◌, ◌↔◌, ◌⊎◌, ℕ, suc, zero, ◌+◌, ◌-◌, ◌<◌, ◌≤◌, ◌&&◌, not, nat_le, nat_lt, Bool, true, false, List, length, take, get_or, Option, Some, None, refl, sym, ap, ◌∙◌, subst, inl, inr, arith}
use Rattle.std.proofs.lemmas.Bool.Decides.{nat_tests}
use Rattle.std.proofs.lemmas.Bool.{cases_lt}
use Rattle.std.proofs.lemmas.List.{get_or-take}
use Rattle.vrt_words.specs.Words.{words_of, bits}
use Rattle.vrt_words.specs.Begins.{IsDatagram}
use Rattle.vrt_time.specs.Time.{TimeStamp, stamp_of, fraction_of}
use Rattle.vrt_header.specs.Profile.{PacketProfile}
use Rattle.vrt_header.specs.Prologue.{IsStamped}
use Rattle.difi_data.specs.Data.{DataPacket, IsData}
use Rattle.vrt_header.specs.declared.header.Kind.TheVariants.{Data}
use Rattle.vrt_header.proofs.KindLaws.{seven_words, timed_of_kind}
use Rattle.difi_data.proofs.SpellingLaws.{payload_size}
use Rattle.sample_binder.specs.declared.label.Label.{Label}
use Rattle.vrt_fields.specs.declared.limits.Limits.{Limits}
use Rattle.sample_binder.specs.Due.{first_below, first_from, may_leave, has_case_after, due}
use Rattle.sample_binder.specs.Events.{Event}
use Rattle.sample_binder.proofs.FirstLaws.{IsFirst, first_below-first, first_below-is, first_below-none_passes}
use Rattle.sample_binder.specs.Readings.{IsSince, IsDueEvent, IsLongest, AreStretches, IsRead}
use Rattle.sample_binder.specs.Runs.{same_label, starts, or_all, next_start, cut_from, cut}
use Rattle.sample_binder.specs.Stretches.{IsStretch}
use Rattle.sample_binder.proofs.LabelLemmas.{same_as, same_self}
use Rattle.sample_binder.proofs.RunLemmas.{cut_first}

-- ---- due events

there_is : (o : Option ℕ) → ((d : ℕ) × (o ≡ Some d)) ⊎ (o ≡ None)
there_is (Some d) = inl (d, refl)
there_is None = inr refl

both : (d e : ℕ) (p : Bool) → (nat_le d e && p) ≡ true → (d ≤ e) × (p ≡ true)
both d e p h = grind (arith, nat_tests)

not_there : (d e : ℕ) (p : Bool) → (nat_le d e && p) ≡ false → d ≤ e → p ≡ false
not_there d e p h le = grind (arith, nat_tests)

since_told : (limits : Limits) (events : List Event) (j d : ℕ) → may_leave (has_case_after limits events) (length events) j ≡ Some d → IsSince limits events j d
since_told limits events zero d e = cc
since_told limits events (suc i) d e = e

told_since : (limits : Limits) (events : List Event) (j d : ℕ) → IsSince limits events j d → may_leave (has_case_after limits events) (length events) j ≡ Some d
told_since limits events zero d e = ap Some (sym e)
told_since limits events (suc i) d e = e

due_is : (limits : Limits) (events : List Event) (j e : ℕ) → due limits events j ≡ Some e → IsDueEvent limits events j e
due_is limits events j e h =
    let p = has_case_after limits events j in
    let n = length events in
    elim (there_is (may_leave (has_case_after limits events) n j)) [
      | inl since ↦
          let d = since.0 in
          let f : IsFirst (λ k. nat_le d k && p k) n e = first_below-first (λ k. nat_le d k && p k) n e (sym (ap (first_from p n) since.1) ∙ h) in
          let t = both d e (p e) f.passes in
          record { since = d; is_since = since_told limits events j d since.1; not_before = t.0; come = f.below; has_case = t.1; first = λ k le lt. not_there d k (p k) (f.least k lt) le }
      | inr none ↦ let gone : None ≡ Some e = sym (ap (first_from p n) none) ∙ h in absurd (cc)
    ]

off_early : (d k : ℕ) (p : Bool) → k < d → (nat_le d k && p) ≡ false
off_early d k p lt = grind (arith, nat_tests)

off_here : (d k : ℕ) (p : Bool) → p ≡ false → (nat_le d k && p) ≡ false
off_here d k p e = grind (arith, nat_tests)

on_here : (d k : ℕ) (p : Bool) → d ≤ k → p ≡ true → (nat_le d k && p) ≡ true
on_here d k p le e = grind (arith, nat_tests)

is_due : (limits : Limits) (events : List Event) (j e : ℕ) → IsDueEvent limits events j e → due limits events j ≡ Some e
is_due limits events j e h =
    let p = has_case_after limits events j in
    let n = length events in
    let none : (k : ℕ) → k < e → (nat_le h.since k && p k) ≡ false = λ k lt. elim (cases_lt k h.since) [
      | inl early ↦ off_early h.since k (p k) early
      | inr le ↦ off_here h.since k (p k) (h.first k le lt)
    ] in
    ap (first_from p n) (told_since limits events j h.since h.is_since)
    ∙ first_below-is (λ k. nat_le h.since k && p k) n e h.come none (on_here h.since e (p e) h.not_before h.has_case)

pub due_told : (limits : Limits) (events : List Event) (j e : ℕ) → (due limits events j ≡ Some e) ↔ IsDueEvent limits events j e
due_told limits events j e = (due_is limits events j e, is_due limits events j e)

-- ---- stretches

no_turn : (b : Bool) → not b ≡ false → b ≡ true
no_turn true e = refl
no_turn false e = absurd (cc)

turn : (b : Bool) → not b ≡ true → b ≡ false
turn true e = absurd (cc)
turn false e = refl

module _ (labels : ℕ → Label) (first end : ℕ) (none : (k : ℕ) → first < k → k < end → starts labels k ≡ false) where
  alike_to : (m : ℕ) → first ≤ m → m < end → same_label (labels first) (labels m) ≡ true
  alike_to zero le lt = let same : first ≡ 0 = omega arith in ap (λ k. same_label (labels k) (labels 0)) same ∙ same_self (labels 0)
  alike_to (suc m) le lt = elim (cases_lt m first) [
    | inl at ↦ let same : first ≡ suc m = omega arith in ap (λ k. same_label (labels k) (labels (suc m))) same ∙ same_self (labels (suc m))
    | inr before ↦
        let here = alike_to m before (omega arith) in
        let next : same_label (labels m) (labels (suc m)) ≡ true = no_turn (same_label (labels m) (labels (suc m))) (none (suc m) (omega arith) lt) in
        same_as (labels first) (labels m) (labels (suc m)) here ∙ next
  ]

  ends_at : (k : ℕ) → k ≡ end → first < end → starts labels k ≡ true → same_label (labels first) (labels k) ≡ false
  ends_at zero e lt on = absurd (omega arith)
  ends_at (suc k) e lt on =
      let here = alike_to k (omega arith) (omega arith) in
      same_as (labels first) (labels k) (labels (suc k)) here ∙ turn (same_label (labels k) (labels (suc k))) on

lt_and : (m k : ℕ) (p : Bool) → (nat_lt m k && p) ≡ true → (m < k) × (p ≡ true)
lt_and m k p e = grind (arith, nat_tests)

not_lt_and : (m k : ℕ) (p : Bool) → (nat_lt m k && p) ≡ false → m < k → p ≡ false
not_lt_and m k p e lt = grind (arith, nat_tests)

-- the stretch from a sample on
stretch_from : (labels : ℕ → Label) (number m : ℕ) (o : Option ℕ) → m < number → first_below (λ k. nat_lt m k && starts labels k) number ≡ o → IsStretch labels number m (labels m) (or_all number o)
stretch_from labels number m None lt e =
    let off = first_below-none_passes (λ k. nat_lt m k && starts labels k) number e in
    record {
      label_told = refl;
      some = lt;
      within = omega arith;
      alike = alike_to labels m number (λ k above below. not_lt_and m k (starts labels k) (off k below) above);
      ends = inl refl;
    }
stretch_from labels number m (Some end) lt e =
    let f = first_below-first (λ k. nat_lt m k && starts labels k) number end e in
    let t = lt_and m end (starts labels end) f.passes in
    let none : (k : ℕ) → m < k → k < end → starts labels k ≡ false = λ k above below. not_lt_and m k (starts labels k) (f.least k below) above in
    record {
      label_told = refl;
      some = t.0;
      within = omega (arith, f.below);
      alike = alike_to labels m end none;
      ends = inr (ends_at labels m end none end refl t.0 t.1);
    }

start_there : (labels : ℕ → Label) (number first end : ℕ) (label : Label) → IsStretch labels number first label end → (k : ℕ) → k ≡ end → end < number → starts labels k ≡ true
start_there labels number first end label h zero e lt = absurd (omega (arith, h.some))
start_there labels number first end label h (suc k) e lt =
    let here = h.alike k (omega (arith, h.some)) (omega arith) in
    let other : same_label label (labels (suc k)) ≡ false = elim h.ends [ inl all ↦ absurd (omega arith) | inr off ↦ ap (λ n. same_label label (labels n)) e ∙ off ] in
    ap not (sym (same_as label (labels k) (labels (suc k)) here) ∙ other)

-- all stretches from a start on, by how many samples are left at most
stretches_from : (labels : ℕ → Label) (number most first : ℕ) → number - first ≤ most → first ≤ number → (first < number → starts labels first ≡ true)
    → AreStretches labels number first (cut_from labels number first (number - first))
stretches_from labels number zero first few within start =
    let none : number - first ≡ 0 = omega arith in
    let all : first ≡ number = omega arith in
    subst (λ n. AreStretches labels number first (cut_from labels number first n)) (sym none) all
stretches_from labels number (suc most) first few within start = elim (cases_lt first number) [
  | inl lt ↦
      let end = next_start labels number first in
      let h = stretch_from labels number first (first_below (λ k. nat_lt first k && starts labels k) number) lt refl in
      let count : first + (end - first) ≡ end = omega (arith, h.some) in
      let rest = stretches_from labels number most end (omega (arith, h.some)) h.within (λ less. start_there labels number first end (labels first) h end refl less) in
      let longest : IsLongest labels number first (end - first) = record {
        some = omega (arith, h.some);
        within = omega (arith, h.within, count);
        alike = λ m le less. h.alike m le (omega (arith, count));
        ends = subst (λ e. (e ≡ number) ⊎ (same_label (labels first) (labels e) ≡ false)) (sym count) h.ends;
      } in
      let split = cut_first labels number first (labels first) end (number - first) h (start lt) refl in
      subst (AreStretches labels number first) (sym split)
      (refl, longest, subst (λ e. AreStretches labels number e (cut_from labels number end (number - end))) (sym count) rest)
  | inr ge ↦
      let none : number - first ≡ 0 = omega arith in
      let all : first ≡ number = omega arith in
      subst (λ n. AreStretches labels number first (cut_from labels number first n)) (sym none) all
]

pub longest_told : (labels : ℕ → Label) (number : ℕ) → AreStretches labels number 0 (cut labels number)
longest_told labels number =
    let all : number - 0 ≡ number = omega arith in
    subst (λ n. AreStretches labels number 0 (cut_from labels number 0 n)) all (stretches_from labels number number 0 (omega arith) (omega arith) (λ lt. refl))

-- ---- what is read of a data packet

stamp_told : (timed : Bool) (stamp : Option TimeStamp) (words : List ℕ) → IsStamped timed stamp words → timed ≡ true → stamp ≡ Some (stamp_of (get_or words 4 0) (fraction_of (get_or words 5 0) (get_or words 6 0)))
stamp_told true stamp words h e = h.1
stamp_told false stamp words h e = absurd (cc)

pub read_told : (profile : PacketProfile) (packet : DataPacket) (bytes : List ℕ) → IsDatagram (IsData profile) packet bytes → IsRead packet bytes
read_told profile packet bytes h =
    let words = words_of bytes in
    let p = packet.prologue in
    let d = h.packet in
    let front = d.prologue.prologue in
    let seven : length (take 7 words) ≡ 7 = seven_words profile Data p (take 7 words) refl d.prologue in
    let timed = timed_of_kind profile Data p (take 7 words) refl d.prologue in
    let word : (k : ℕ) → k < 7 → get_or (take 7 words) k 0 ≡ get_or words k 0 = λ k lt. get_or-take 7 words k 0 lt in
    let size = payload_size profile packet words d in
    record {
      stamp = stamp_told p.header.timed p.stamp (take 7 words) front.stamp timed
          ∙ ap (λ s. Some (stamp_of s (fraction_of (get_or (take 7 words) 5 0) (get_or (take 7 words) 6 0)))) (word 4 (omega arith))
          ∙ ap (λ f. Some (stamp_of (get_or words 4 0) (fraction_of f (get_or (take 7 words) 6 0)))) (word 5 (omega arith))
          ∙ ap (λ f. Some (stamp_of (get_or words 4 0) (fraction_of (get_or words 5 0) f))) (word 6 (omega arith));
      count = front.header.count ∙ ap (λ w. bits w 16 4) (word 0 (omega arith));
      words = omega (arith, size.1, d.size);
      pad = front.pad ∙ ap (λ w. bits w 27 5) (word 2 (omega arith));
    }
