-- Of a true text each record is true, and each sample of a packet that arrives is told once.
use Rattle.std.proofs.Common.{◌≡◌, ◌≢◌, ◌⊎◌, ℕ, zero, suc, ◌+◌, ◌<◌, ◌≤◌, ◌==◌, ◌&&◌, nat_le, nat_lt, Bool, true, false, cond, List, [], ◌∷◌, ◌++◌, length, filter, get_or, slice_get, Some, refl, sym, ap, ◌∙◌, subst, inl, inr, arith, length-append}
use Rattle.std.proofs.lemmas.Bool.{cases_lt}
use Rattle.std.proofs.lemmas.Bool.Decides.{nat_tests}
use Rattle.std.proofs.lemmas.List.Elements.{filter-append}
use Rattle.std.proofs.lemmas.Option.{same_Some, none-some}
use Rattle.std.specs.List.{AllByRecursion, flat_map}
use Rattle.vrt_time.specs.Time.{TimeStamp, moment_of}
use Rattle.vrt_header.specs.Profile.{PacketProfile}
use Rattle.reorder_window.specs.Delivery.{occurs}
use Rattle.sample_binder.specs.Parts.{Part, payload_of, samples_of}
use Rattle.sample_binder.specs.declared.out.Run.{Run}
use Rattle.sample_binder.specs.declared.out.Run.TheVariants.{Bound, Uncertain, Raw}
use Rattle.site_truth.specs.Cause.{Left}
use Rattle.site_truth.specs.Delivered.{Delivery, IsDelivered, AreInOrder}
use Rattle.site_truth.specs.Site.{IsSite, packet_moment, packet_stamp}
use Rattle.site_truth.specs.Truth.{AreTrueRuns, IsTruePart, IsTrueRaw, IsTrueCut, IsTrueRun, Sampled}
use Rattle.difi_gateway.specs.Releases.{Release}
use Rattle.difi_gateway.specs.ToldOnce.{IsToldOnce, IsTrueRelease, is_run_with, number_telling, tells_sample, tells_whole}
use Rattle.difi_gateway.specs.TrueText.{AreTrueReleases, release_of, releases_for, releases_of_part, releases_of_runs}

-- ---- the runs of one packet

-- how many runs pass
abbrev pub passing : (Run → Bool) → List Run → ℕ
passing test runs = length (filter test runs)

as_long : (test : Bool) (x : Release) (y : Run) (xs : List Release) (ys : List Run) → length xs ≡ length ys → length (cond test (x ∷ xs) xs) ≡ length (cond test (y ∷ ys) ys)
as_long true x y xs ys e = ap suc e
as_long false x y xs ys e = e

module _ (test : Run → Bool) (stream port : ℕ) where
  runs_count : (payload : List ℕ) (lost : ℕ) (runs : List Run) → number_telling test (releases_of_runs stream port payload lost runs) ≡ passing test runs
  runs_count payload lost [] = refl
  runs_count payload lost (run ∷ runs) =
      as_long (test run) (release_of stream port payload lost run) run (filter (λ (r : Release). is_run_with test r.shown) (releases_of_runs stream port payload 0 runs)) (filter test runs)
      (runs_count payload 0 runs)

  parts_count : (part : Part) (parts : List Part) → number_telling test (flat_map (releases_of_part stream port) (part ∷ parts))
      ≡ passing test part.runs + number_telling test (flat_map (releases_of_part stream port) parts)
  parts_count part parts =
      let kept = λ (rs : List Release). filter (λ (r : Release). is_run_with test r.shown) rs in
      let first = releases_of_part stream port part in
      let rest = flat_map (releases_of_part stream port) parts in
      ap length (filter-append (λ (r : Release). is_run_with test r.shown) first rest)
      ∙ length-append (kept first) (kept rest)
      ∙ ap (λ n. n + length (kept rest)) (runs_count (payload_of part.buf.bytes) part.lost part.runs)

  none_passes : (parts : List Part) → ((i : ℕ) (p : Part) → slice_get parts i ≡ Some p → passing test p.runs ≡ 0)
      → number_telling test (flat_map (releases_of_part stream port) parts) ≡ 0
  none_passes [] h = refl
  none_passes (p ∷ parts) h = omega (arith, parts_count p parts, h 0 p refl, none_passes parts (λ i q e. h (suc i) q e))

  -- of the packets one alone has runs that pass
  pub one_passes : (parts : List Part) (place : ℕ) (part : Part) → slice_get parts place ≡ Some part
      → ((i : ℕ) (p : Part) → slice_get parts i ≡ Some p → i ≢ place → passing test p.runs ≡ 0)
      → number_telling test (flat_map (releases_of_part stream port) parts) ≡ passing test part.runs
  one_passes [] place part e h = absurd (none-some _ e)
  one_passes (p ∷ parts) zero part e h =
      let same : p ≡ part = same_Some _ _ e in
      let rest = none_passes parts (λ i q f. h (suc i) q f (λ z. omega (arith, z))) in
      let first : passing test p.runs ≡ passing test part.runs = ap (λ (x : Part). passing test x.runs) same in
      omega (arith, parts_count p parts, rest, first)
  one_passes (p ∷ parts) (suc place) part e h =
      let rest = one_passes parts place part e (λ i q f apart. h (suc i) q f (λ z. apart (omega (arith, z)))) in
      let first = h 0 p refl (λ z. omega (arith, z)) in
      omega (arith, parts_count p parts, rest, first)

-- ---- stamps

abbrev pub run_stamp : Run → TimeStamp
run_stamp (Bound stamp first number at fields bits) = stamp
run_stamp (Uncertain reason stamp first number at bits) = stamp
run_stamp (Raw reason stamp pad) = stamp

abbrev pub AreStamped : TimeStamp → List Run → Type 0
AreStamped stamp runs = AllByRecursion (λ run. run_stamp run ≡ stamp) runs

not_equal : (a b : ℕ) → a ≢ b → (a == b) ≡ false
not_equal a b h = grind (arith, nat_tests)

equal : (a b : ℕ) → a ≡ b → (a == b) ≡ true
equal a b e = grind (arith, nat_tests)

pub within : (a b x m k : ℕ) → a ≡ b → x ≤ m → m < x + k → (a == b && nat_le x m && nat_lt m (x + k)) ≡ true
within a b x m k e f g = grind (arith, nat_tests)

too_early : (a b x m k : ℕ) → m < x → (a == b && nat_le x m && nat_lt m (x + k)) ≡ false
too_early a b x m k h = grind (arith, nat_tests)

too_late : (a b x m k : ℕ) → x + k ≤ m → (a == b && nat_le x m && nat_lt m (x + k)) ≡ false
too_late a b x m k h = grind (arith, nat_tests)

-- a run that has another stamp tells nothing of the packet
pub other_sample : (moment m : ℕ) (run : Run) → moment_of (run_stamp run) ≢ moment → tells_sample moment m run ≡ false
other_sample moment m (Bound stamp first number at fields bits) h = ap (λ b. b && nat_le first m && nat_lt m (first + number)) (not_equal (moment_of stamp) moment h)
other_sample moment m (Uncertain reason stamp first number at bits) h = ap (λ b. b && nat_le first m && nat_lt m (first + number)) (not_equal (moment_of stamp) moment h)
other_sample moment m (Raw reason stamp pad) h = refl

other_whole : (moment : ℕ) (run : Run) → moment_of (run_stamp run) ≢ moment → tells_whole moment run ≡ false
other_whole moment (Bound stamp first number at fields bits) h = refl
other_whole moment (Uncertain reason stamp first number at bits) h = refl
other_whole moment (Raw reason stamp pad) h = not_equal (moment_of stamp) moment h

all_fail : (test : Run → Bool) (runs : List Run) → AllByRecursion (λ run. test run ≡ false) runs → passing test runs ≡ 0
all_fail test [] h = refl
all_fail test (run ∷ runs) h = ap (λ b. length (cond b (run ∷ filter test runs) (filter test runs))) h.0 ∙ all_fail test runs h.1

pub others_fail : (test : Run → Bool) (moment : ℕ) (stamp : TimeStamp) → ((run : Run) → moment_of (run_stamp run) ≢ moment → test run ≡ false) → moment_of stamp ≢ moment
    → (runs : List Run) → AreStamped stamp runs → passing test runs ≡ 0
others_fail test moment stamp h apart [] all = refl
others_fail test moment stamp h apart (run ∷ runs) all =
    let fails : test run ≡ false = h run (λ e. apart (sym (ap moment_of all.0) ∙ e)) in
    ap (λ b. length (cond b (run ∷ filter test runs) (filter test runs))) fails ∙ others_fail test moment stamp h apart runs all.1

-- ---- one packet's runs

module _ (delivery : Delivery) (left : Left) (sampled : Sampled) where
  abbrev moment : ℕ
  moment = packet_moment delivery.site sampled.packet

  run_stamped : (from : ℕ) (run : Run) → IsTrueRun delivery left sampled from run → run_stamp run ≡ packet_stamp delivery.site sampled.packet
  run_stamped from (Bound stamp first number at fields bits) h = h.0.stamp_is
  run_stamped from (Uncertain reason stamp first number at bits) h = h.0.stamp_is
  run_stamped from (Raw reason stamp pad) h = absurd h

  runs_stamped : (from : ℕ) (runs : List Run) → AreTrueRuns delivery left sampled from runs → AreStamped (packet_stamp delivery.site sampled.packet) runs
  runs_stamped from [] h = tt
  runs_stamped from (run ∷ runs) h = (run_stamped from run h.0, runs_stamped (from + samples_of run) runs h.1)

  none_whole : (from : ℕ) (runs : List Run) → AreTrueRuns delivery left sampled from runs → passing (tells_whole moment) runs ≡ 0
  none_whole from [] h = refl
  none_whole from (Bound stamp first number at fields bits ∷ runs) h = none_whole (from + number) runs h.1
  none_whole from (Uncertain reason stamp first number at bits ∷ runs) h = none_whole (from + number) runs h.1
  none_whole from (Raw reason stamp pad ∷ runs) h = absurd h.0

  -- a run tells those of its samples and no others
  tells_here : (from m : ℕ) (run : Run) → IsTrueRun delivery left sampled from run → from ≤ m → m < from + samples_of run → tells_sample moment m run ≡ true
  tells_here from m (Bound stamp first number at fields bits) h le lt =
      within (moment_of stamp) moment first m number (ap moment_of h.0.stamp_is) (omega (arith, le, h.0.first_is)) (omega (arith, lt, h.0.first_is))
  tells_here from m (Uncertain reason stamp first number at bits) h le lt =
      within (moment_of stamp) moment first m number (ap moment_of h.0.stamp_is) (omega (arith, le, h.0.first_is)) (omega (arith, lt, h.0.first_is))
  tells_here from m (Raw reason stamp pad) h le lt = absurd h

  pub not_before : (from m : ℕ) (run : Run) → IsTrueRun delivery left sampled from run → m < from → tells_sample moment m run ≡ false
  not_before from m (Bound stamp first number at fields bits) h lt = too_early (moment_of stamp) moment first m number (omega (arith, lt, h.0.first_is))
  not_before from m (Uncertain reason stamp first number at bits) h lt = too_early (moment_of stamp) moment first m number (omega (arith, lt, h.0.first_is))
  not_before from m (Raw reason stamp pad) h lt = absurd h

  pub not_behind : (from m : ℕ) (run : Run) → IsTrueRun delivery left sampled from run → from + samples_of run ≤ m → tells_sample moment m run ≡ false
  not_behind from m (Bound stamp first number at fields bits) h le = too_late (moment_of stamp) moment first m number (omega (arith, le, h.0.first_is))
  not_behind from m (Uncertain reason stamp first number at bits) h le = too_late (moment_of stamp) moment first m number (omega (arith, le, h.0.first_is))
  not_behind from m (Raw reason stamp pad) h le = absurd h

  none_behind : (from m : ℕ) (runs : List Run) → AreTrueRuns delivery left sampled from runs → m < from → passing (tells_sample moment m) runs ≡ 0
  none_behind from m [] h lt = refl
  none_behind from m (run ∷ runs) h lt =
      let test = tells_sample moment m in
      ap (λ b. length (cond b (run ∷ filter test runs) (filter test runs))) (not_before from m run h.0 lt) ∙ none_behind (from + samples_of run) m runs h.1 (omega (arith, lt))

  one_sample : (from m : ℕ) (runs : List Run) → AreTrueRuns delivery left sampled from runs → from ≤ m → m < sampled.number → passing (tells_sample moment m) runs ≡ 1
  one_sample from m [] h le lt = absurd (omega (arith, h, le, lt))
  one_sample from m (run ∷ runs) h le lt =
      let test = tells_sample moment m in
      let rest = filter test runs in
      elim (cases_lt m (from + samples_of run)) [
        | inl here ↦
            ap (λ b. length (cond b (run ∷ rest) rest)) (tells_here from m run h.0 le here)
            ∙ ap suc (none_behind (from + samples_of run) m runs h.1 here)
        | inr further ↦
            ap (λ b. length (cond b (run ∷ rest) rest)) (not_behind from m run h.0 further)
            ∙ one_sample (from + samples_of run) m runs h.1 further lt
      ]

-- ---- all packets

there : {X : Type 0} (xs : List X) (i : ℕ) → i < length xs → (x : X) × (slice_get xs i ≡ Some x)
there [] i lt = absurd (omega (arith, lt))
there (x ∷ xs) zero lt = (x, refl)
there (x ∷ xs) (suc i) lt = there xs i (omega (arith, lt))

pub inside : {X : Type 0} (xs : List X) (i : ℕ) (x : X) → slice_get xs i ≡ Some x → i < length xs
inside [] i x e = absurd (none-some _ e)
inside (y ∷ xs) zero x e = omega arith
inside (y ∷ xs) (suc i) x e = let lt = inside xs i x e in omega (arith, lt)

module _ (delivery : Delivery) (contexts packets : List ℕ) where
  pub part_stamped : (j : ℕ) (part : Part) → IsTruePart delivery contexts packets j part → AreStamped (packet_stamp delivery.site (get_or packets j 0)) part.runs
  part_stamped j part h = elim h.runs [
    | inl raw ↦ subst (AreStamped (packet_stamp delivery.site (get_or packets j 0))) (sym raw.runs_are) (refl, tt)
    | inr cut ↦ runs_stamped delivery h.left (record { packet = get_or packets j 0; context = cut.context; number = cut.number }) 0 part.runs cut.runs_are
  ]

module _ (profile : PacketProfile) (most : ℕ) (delivery : Delivery) (s : IsSite profile most delivery.site) (d : IsDelivered delivery) where
  -- packets at different places have different stamps
  pub moments_differ : (packets : List ℕ) → AreInOrder delivery.packets packets → (i j : ℕ) → i < length packets → j < length packets → i ≢ j
      → packet_moment delivery.site (get_or packets i 0) ≢ packet_moment delivery.site (get_or packets j 0)
  moments_differ packets o i j a b apart same =
      let sent_i = d.packets.sent (get_or packets i 0) (o.inside i a) in
      let sent_j = d.packets.sent (get_or packets j 0) (o.inside j b) in
      elim (cases_lt i j) [
        | inl lt ↦ let r = s.packets.rising (get_or packets i 0) (get_or packets j 0) (o.rising.rising i j lt b) sent_j in omega (arith, r, same)
        | inr ge ↦ elim (cases_lt j i) [
          | inl lt ↦ let r = s.packets.rising (get_or packets j 0) (get_or packets i 0) (o.rising.rising j i lt a) sent_i in omega (arith, r, same)
          | inr le ↦ apart (omega (arith, ge, le))
        ]
      ]

  pub told_once : (stream port : ℕ) (releases : List Release) → AreTrueReleases delivery stream port releases → (n : ℕ) → occurs n delivery.packets ≡ true
      → IsToldOnce delivery (releases_for stream port releases) n
  told_once stream port releases t n arrived =
      let truth = t.are_true in
      let at = truth.packets_arrived.all n arrived in
      let long : at.0 < length truth.parts = omega (arith, at.1, truth.once) in
      let mine = there truth.parts at.0 long in
      let part = mine.0 in
      let is = truth.each at.0 part mine.1 in
      let apart : (i : ℕ) (p : Part) → slice_get truth.parts i ≡ Some p → i ≢ at.0 → moment_of (packet_stamp delivery.site (get_or truth.packets i 0)) ≢ packet_moment delivery.site n =
      λ i p e other same.
      let lt : i < length truth.packets = omega (arith, inside truth.parts i p e, truth.once) in
      moments_differ truth.packets truth.packets_arrived i at.0 lt at.1 other (same ∙ sym (ap (packet_moment delivery.site) at.2)) in
      let only : (test : Run → Bool) → ((run : Run) → moment_of (run_stamp run) ≢ packet_moment delivery.site n → test run ≡ false)
      → number_telling test (releases_for stream port releases) ≡ passing test part.runs =
      λ test fails.
      ap (number_telling test) t.releases_are
      ∙ one_passes test stream port truth.parts at.0 part mine.1
      (λ i p e other. others_fail test (packet_moment delivery.site n) (packet_stamp delivery.site (get_or truth.packets i 0)) fails (apart i p e other) p.runs
      (part_stamped delivery truth.contexts truth.packets i p (truth.each i p e))) in
      let whole = only (tells_whole (packet_moment delivery.site n)) (other_whole (packet_moment delivery.site n)) in
      let sample = λ (m : ℕ). only (tells_sample (packet_moment delivery.site n) m) (other_sample (packet_moment delivery.site n) m) in
      by_part n at.2 part is.left (releases_for stream port releases) whole sample is.runs
    where
      by_part : (n : ℕ) → {k : ℕ} → k ≡ n → (part : Part) (left : Left) (rs : List Release)
          → number_telling (tells_whole (packet_moment delivery.site n)) rs ≡ passing (tells_whole (packet_moment delivery.site n)) part.runs
          → ((m : ℕ) → number_telling (tells_sample (packet_moment delivery.site n) m) rs ≡ passing (tells_sample (packet_moment delivery.site n) m) part.runs)
          → IsTrueRaw delivery left k part.runs ⊎ IsTrueCut delivery left k part.runs → IsToldOnce delivery rs n
      by_part n {k} same part left rs whole sample (inl raw) =
          let one : packet_moment delivery.site k ≡ packet_moment delivery.site n = ap (packet_moment delivery.site) same in
          let run = Raw raw.reason (packet_stamp delivery.site k) _ in
          inl (record {
            once = whole ∙ ap (passing (tells_whole (packet_moment delivery.site n))) raw.runs_are
                ∙ ap (λ b. length (cond b (run ∷ []) [])) (equal (packet_moment delivery.site k) (packet_moment delivery.site n) one);
            no_sample = λ m. sample m ∙ ap (passing (tells_sample (packet_moment delivery.site n) m)) raw.runs_are;
          })
      by_part n {k} same part left rs whole sample (inr other) =
          let cut : IsTrueCut delivery left n part.runs = subst (λ (j : ℕ). IsTrueCut delivery left j part.runs) same other in
          let sampled : Sampled = record { packet = n; context = cut.context; number = cut.number } in
          inr (record {
            context = cut.context;
            in_force = cut.in_force;
            number = cut.number;
            divides = cut.divides;
            not_whole = whole ∙ none_whole delivery left sampled 0 part.runs cut.runs_are;
            once = λ m lt. sample m ∙ one_sample delivery left sampled 0 m part.runs cut.runs_are (omega arith) lt;
          })

-- ---- each record

-- a release of a list of runs is of one of them, with the payload
record IsRunAt (stream port : ℕ) (payload : List ℕ) (runs : List Run) (release : Release) : Type 0 where
  pub at : ℕ
  pub lost : ℕ
  pub run : Run
  pub is_there : slice_get runs at ≡ Some run
  pub is : release ≡ release_of stream port payload lost run

-- and of packets, of one of them
record IsPartAt (stream port : ℕ) (parts : List Part) (release : Release) : Type 0 where
  pub place : ℕ
  pub part : Part
  pub is_there : slice_get parts place ≡ Some part
  pub of_run : IsRunAt stream port (payload_of part.buf.bytes) part.runs release

module _ (stream port : ℕ) where
  run_at : (payload : List ℕ) (lost : ℕ) (runs : List Run) (rest : List Release) (i : ℕ) (release : Release)
      → slice_get (releases_of_runs stream port payload lost runs ++ rest) i ≡ Some release
      → IsRunAt stream port payload runs release ⊎ ((j : ℕ) × (slice_get rest j ≡ Some release))
  run_at payload lost [] rest i release e = inr (i, e)
  run_at payload lost (run ∷ runs) rest zero release e = inl (record { at = 0; lost = lost; run = run; is_there = refl; is = sym (same_Some _ _ e) })
  run_at payload lost (run ∷ runs) rest (suc i) release e = elim (run_at payload 0 runs rest i release e) [
    | inl r ↦ inl (record { at = suc r.at; lost = r.lost; run = r.run; is_there = r.is_there; is = r.is })
    | inr r ↦ inr r
  ]

  part_at : (parts : List Part) (i : ℕ) (release : Release) → slice_get (flat_map (releases_of_part stream port) parts) i ≡ Some release → IsPartAt stream port parts release
  part_at [] i release e = absurd (none-some _ e)
  part_at (part ∷ parts) i release e = elim (run_at (payload_of part.buf.bytes) part.lost part.runs (flat_map (releases_of_part stream port) parts) i release e) [
    | inl r ↦ record { place = 0; part = part; is_there = refl; of_run = r }
    | inr r ↦ let p = part_at parts r.0 release r.1 in record { place = suc p.place; part = p.part; is_there = p.is_there; of_run = p.of_run }
  ]

module _ (delivery : Delivery) (left : Left) (n : ℕ) where
  raw_at : (runs : List Run) (at : ℕ) (run : Run) → IsTrueRaw delivery left n runs → slice_get runs at ≡ Some run → IsTrueRaw delivery left n (run ∷ [])
  raw_at runs at run raw e =
      let one : slice_get (Raw raw.reason (packet_stamp delivery.site n) _ ∷ []) at ≡ Some run = sym (ap (λ rs. slice_get rs at) raw.runs_are) ∙ e in
      record { reason = raw.reason; runs_are = ap (λ r. r ∷ []) (first_of at one); cause = raw.cause }
    where
      first_of : {x : Run} (at : ℕ) → slice_get (x ∷ []) at ≡ Some run → run ≡ x
      first_of zero f = sym (same_Some _ _ f)
      first_of (suc i) f = absurd (none-some _ f)

  samples_at : (context number : ℕ) (from : ℕ) (runs : List Run) (at : ℕ) (run : Run) → AreTrueRuns delivery left (record { packet = n; context = context; number = number }) from runs
      → slice_get runs at ≡ Some run → (start : ℕ) × IsTrueRun delivery left (record { packet = n; context = context; number = number }) start run
  samples_at context number from [] at run h e = absurd (none-some _ e)
  samples_at context number from (x ∷ runs) zero run h e =
      (from, subst (IsTrueRun delivery left (record { packet = n; context = context; number = number }) from) (same_Some _ _ e) h.0)
  samples_at context number from (x ∷ runs) (suc at) run h e = samples_at context number (from + samples_of x) runs at run h.1 e

pub record_true : (delivery : Delivery) (stream port : ℕ) (releases : List Release) → AreTrueReleases delivery stream port releases
    → (i : ℕ) (release : Release) → slice_get (releases_for stream port releases) i ≡ Some release
    → IsTrueRelease delivery stream port release
record_true delivery stream port releases t i release e =
    let truth = t.are_true in
    let p = part_at stream port truth.parts i release (sym (ap (λ rs. slice_get rs i) t.releases_are) ∙ e) in
    let is = truth.each p.place p.part p.is_there in
    let n = get_or truth.packets p.place 0 in
    let lt : p.place < length truth.packets = omega (arith, inside truth.parts p.place p.part p.is_there, truth.once) in
    let r = p.of_run in (
      r.lost,
      r.run,
      ap (λ (x : Release). x.shown) r.is,
      record {
        packet = n;
        arrived = truth.packets_arrived.inside p.place lt;
        payload_is = ap (λ (x : Release). x.payload) r.is ∙ ap (λ (b : _). payload_of b.bytes) is.buf;
        left = is.left;
        is_true = elim is.runs [
          | inl raw ↦ inl (raw_at delivery is.left n p.part.runs r.at r.run raw r.is_there)
          | inr cut ↦
              let one = samples_at delivery is.left n cut.context cut.number 0 p.part.runs r.at r.run cut.runs_are r.is_there in
              inr (record { context = cut.context; in_force = cut.in_force; number = cut.number; divides = cut.divides; from = one.0; is_true = one.1 })
        ];
      },
    )
