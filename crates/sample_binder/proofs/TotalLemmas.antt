-- The samples and the whole packets of a stream are at most the bytes of its payloads.
use Rattle.std.proofs.Common.{◌≡◌, ℕ, suc, zero, ◌+◌, ◌≤◌, nat_lt, Bool, true, false, cond, List, [], ◌∷◌, ◌++◌, length, take, drop, fold, map, slice_get, Option, Some, None, IfSome, refl, sym, ap, ◌∙◌, subst, arith}
use Rattle.std.proofs.lemmas.List.{take-append-drop}
use Rattle.std.specs.List.{AllByRecursion}
use Rattle.vrt_words.specs.Buffer.{Buffer}
use Rattle.vrt_time.specs.Time.{TimeStamp, moment_of}
use Rattle.vrt_header.specs.Profile.{PacketProfile}
use Rattle.vrt_fields.specs.declared.limits.Limits.{Limits}
use Rattle.reorder_window.specs.declared.entry.Entry.{Entry}
use Rattle.reorder_window.specs.Window.{is_accepted, in_place, with_arrival, accepted, number_held, release, in_order, releases}
use Rattle.sample_binder.specs.declared.out.Out.{Out}
use Rattle.sample_binder.specs.declared.out.Out.TheVariants as out
use Rattle.sample_binder.specs.Pending.{Pending}
use Rattle.sample_binder.specs.declared.out.Run.{Run}
use Rattle.sample_binder.specs.Calls.{Call, ContextCall, DataCall, EndCall, data_arrivals, is_told, all_releases, events_of, outputs_of}
use Rattle.sample_binder.specs.Due.{due}
use Rattle.sample_binder.specs.Events.{Event, packets_of, has_ended, line_after}
use Rattle.sample_binder.specs.Outputs.{open_reason, leaves_after, leaves_at, leaves, outputs_of_first, outputs}
use Rattle.sample_binder.specs.Parts.{IsCallOf, AreCallsOf, payload_of, samples_of, samples_told, counted_of, counted_in, counted_told, payload_bytes}
use Rattle.sample_binder.specs.declared.out.Run.TheVariants as run
use Rattle.sample_binder.specs.Released.{released_packet}
use Rattle.sample_binder.specs.Runs.{runs_of}
use Rattle.sample_binder.proofs.EventLemmas.{every-append, every-take, IsSoundPacket, IsSoundEvent, packets_sound, events_sound}
use Rattle.sample_binder.proofs.GrowLemmas.{are_releases, are_all_releases}
use Rattle.sample_binder.proofs.MarkLemmas.{each_at}
use Rattle.sample_binder.proofs.PartLemmas.{leaves_in}
use Rattle.sample_binder.proofs.StateLemmas.{packets_of-append}

-- ---- sums

module _ {X : Type 0} (f : X → ℕ) where
  abbrev total : List X → ℕ
  total [] = 0
  total (x ∷ xs) = f x + total xs

  total-append : (xs ys : List X) → total (xs ++ ys) ≡ total xs + total ys
  total-append [] ys = omega arith
  total-append (x ∷ xs) ys = omega (arith, total-append xs ys)

  total-drop : (n : ℕ) (xs : List X) → total (drop n xs) ≤ total xs
  total-drop zero xs = omega arith
  total-drop (suc n) [] = omega arith
  total-drop (suc n) (x ∷ xs) = omega (arith, total-drop n xs)

  total-take : (n : ℕ) (xs : List X) → total (take n xs) ≤ total xs
  total-take zero xs = omega arith
  total-take (suc n) [] = omega arith
  total-take (suc n) (x ∷ xs) = omega (arith, total-take n xs)

  abbrev of_one : Option X → ℕ
  of_one None = 0
  of_one (Some x) = f x

  total-one_more : (n : ℕ) (xs : List X) → total (take (suc n) xs) ≡ total (take n xs) + of_one (slice_get xs n)
  total-one_more zero [] = refl
  total-one_more (suc n) [] = refl
  total-one_more zero (x ∷ xs) = omega arith
  total-one_more (suc n) (x ∷ xs) = omega (arith, total-one_more n xs)

total-map : {X Y : Type 0} (f : Y → ℕ) (g : X → Y) (xs : List X) → total f (map g xs) ≡ total (λ x. f (g x)) xs
total-map f g [] = refl
total-map f g (x ∷ xs) = ap (λ n. f (g x) + n) (total-map f g xs)

-- ---- arrivals and releases

accepted-is : {T : Type 0} (size : ℕ) (arrivals : List (Entry T)) → accepted size arrivals ≡ fold (with_arrival size) [] arrivals
unfolding accepted
accepted-is size arrivals = refl

module _ {T : Type 0} (g : T → ℕ) where
  abbrev of_entry : Entry T → ℕ
  of_entry a = g a.item

  total-in_place : (a : Entry T) (xs : List (Entry T)) → total of_entry (in_place a xs) ≡ g a.item + total of_entry xs
  total-in_place a [] = refl
  total-in_place a (x ∷ xs) = placed (nat_lt (moment_of x.stamp) (moment_of a.stamp)) (total-in_place a xs)
    where
      placed : (b : Bool) → total of_entry (in_place a xs) ≡ g a.item + total of_entry xs
          → total of_entry (cond b (a ∷ x ∷ xs) (x ∷ in_place a xs)) ≡ g a.item + (g x.item + total of_entry xs)
      placed true e = refl
      placed false e = omega (arith, e)

  total-chosen : (a : Entry T) (xs : List (Entry T)) (b : Bool) → total of_entry (cond b (in_place a xs) xs) ≤ g a.item + total of_entry xs
  total-chosen a xs true = omega (arith, total-in_place a xs)
  total-chosen a xs false = omega arith

  total-fold : (size : ℕ) (xs arrivals : List (Entry T)) → total of_entry (fold (with_arrival size) xs arrivals) ≤ total of_entry xs + total of_entry arrivals
  total-fold size xs [] = omega arith
  total-fold size xs (a ∷ arrivals) = omega (arith, total-fold size (with_arrival size xs a) arrivals, total-chosen a xs (is_accepted size xs a))

  total-accepted : (size : ℕ) (arrivals : List (Entry T)) → total of_entry (accepted size arrivals) ≤ total of_entry arrivals
  total-accepted size arrivals = omega (arith, total-fold size [] arrivals, ap (total of_entry) (accepted-is size arrivals))

  abbrev of_release : TimeStamp × ℕ × T → ℕ
  of_release r = g r.2

  total-in_order : (xs : List (Entry T)) → total of_release (in_order xs) ≡ total of_entry xs
  total-in_order [] = refl
  total-in_order (x ∷ xs) = omega (arith, total-append of_release (in_order xs) (release x xs ∷ []), total-in_order xs)

  total-releases : (size : ℕ) (arrivals : List (Entry T)) (drained : ℕ) → total of_release (releases size arrivals drained) ≤ total of_entry arrivals
  total-releases size arrivals drained =
      let n = number_held size arrivals drained in
      omega (arith, total-in_order (drop n (accepted size arrivals)), total-drop of_entry n (accepted size arrivals), total-accepted size arrivals)

  total-all : (size : ℕ) (arrivals : List (Entry T)) → total of_release (all_releases size arrivals) ≤ total of_entry arrivals
  total-all size arrivals = omega (arith, total-in_order (accepted size arrivals), total-accepted size arrivals)

abbrev bytes_in : Buffer → ℕ
bytes_in buf = length (payload_of buf.bytes)

abbrev of_packet : Pending → ℕ
of_packet packet = bytes_in packet.buf

arrivals_total : (calls : List Call) → total (of_entry bytes_in) (data_arrivals calls) ≡ payload_bytes calls
arrivals_total [] = refl
arrivals_total (ContextCall rec ∷ calls) = arrivals_total calls
arrivals_total (DataCall buf ∷ calls) = ap (λ n. bytes_in buf + n) (arrivals_total calls)
arrivals_total (EndCall ∷ calls) = arrivals_total calls

-- ---- what counts: samples, and whole packets

told-append : (xs ys : List Out) → counted_told (xs ++ ys) ≡ counted_told xs + counted_told ys
told-append [] ys = omega arith
told-append (out.Packet buf lost ∷ xs) ys = told-append xs ys
told-append (out.Run run ∷ xs) ys = omega (arith, told-append xs ys)

told-runs : (runs : List Run) → counted_told (map out.Run runs) ≡ counted_in runs
told-runs [] = refl
told-runs (run ∷ runs) = ap (λ n. counted_of run + n) (told-runs runs)

prefix_get : {X : Type 0} (xs ys : List X) (j : ℕ) (x : X) → slice_get xs j ≡ Some x → slice_get (xs ++ ys) j ≡ Some x
prefix_get [] ys zero x e = absurd (cc)
prefix_get [] ys (suc j) x e = absurd (cc)
prefix_get (y ∷ xs) ys zero x e = e
prefix_get (y ∷ xs) ys (suc j) x e = prefix_get xs ys j x e

module _ (profile : PacketProfile) (all : List Call) (limits : Limits) (events : List Event) (sound : AllByRecursion (IsSoundEvent profile all) events) where
  -- what one packet counts is at most its bytes
  told_after : (j n : ℕ) (o : Option Pending) → slice_get (packets_of (take n events)) j ≡ o → counted_told (leaves_after limits.kept (take n events) o) ≤ of_one of_packet (slice_get (packets_of events) j)
  told_after j n None e = omega arith
  told_after j n (Some packet) e =
      let es = take n events in
      let front = every-take (IsSoundEvent profile all) n events sound in
      let at : IsSoundPacket profile all packet = subst (λ (o : Option Pending). IfSome o (IsSoundPacket profile all)) e (each_at (IsSoundPacket profile all) (packets_of es) j (packets_sound profile all es front)) in
      let few = (leaves_in profile all limits.kept es front packet at).left.counted in
      let split = ap packets_of (sym (take-append-drop n events)) ∙ packets_of-append es (drop n events) in
      let there : slice_get (packets_of events) j ≡ Some packet = ap (λ (ps : List Pending). slice_get ps j) split ∙ prefix_get (packets_of es) (packets_of (drop n events)) j packet e in
      omega (arith, few, told-runs (runs_of (line_after limits.kept es) (open_reason (has_ended es)) packet.shape), ap (of_one of_packet) there)

  told_at : (j : ℕ) (o : Option ℕ) → counted_told (leaves_at limits events j o) ≤ of_one of_packet (slice_get (packets_of events) j)
  told_at j None = omega arith
  told_at j (Some e) = told_after j (suc e) (slice_get (packets_of (take (suc e) events)) j) refl

  told_first : (n : ℕ) → counted_told (outputs_of_first limits events n) ≤ total of_packet (take n (packets_of events))
  told_first zero = omega arith
  told_first (suc n) =
      omega (arith, told_first n, told_at n (due limits events n), told-append (outputs_of_first limits events n) (leaves limits events n), total-one_more of_packet n (packets_of events))

  told_all : counted_told (outputs limits events) ≤ total of_packet (packets_of events)
  told_all = omega (arith, told_first (length (packets_of events)), total-take of_packet (length (packets_of events)) (packets_of events))

-- ---- of calls

pub counted_arriving : (profile : PacketProfile) (limits : Limits) (calls : List Call) → AreCallsOf profile calls → is_told calls ≡ false → counted_told (outputs_of limits calls) ≤ payload_bytes calls
counted_arriving profile limits calls h off =
    let rs = releases limits.data_window (data_arrivals calls) 0 in
    omega (
      arith,
      told_all profile calls limits (events_of limits calls) (events_sound profile calls limits h),
      ap (total of_packet) (are_releases limits calls off).packets,
      total-map of_packet released_packet rs,
      total-releases bytes_in limits.data_window (data_arrivals calls) 0,
      arrivals_total calls,
    )

pub counted_ending : (profile : PacketProfile) (limits : Limits) (calls : List Call) → AreCallsOf profile calls → is_told calls ≡ false → counted_told (outputs_of limits (calls ++ EndCall ∷ [])) ≤ payload_bytes calls
counted_ending profile limits calls h off =
    let more = calls ++ EndCall ∷ [] in
    let sound = events_sound profile more limits (every-append (IsCallOf profile) calls (EndCall ∷ []) h (tt, tt)) in
    omega (
      arith,
      told_all profile more limits (events_of limits more) sound,
      ap (total of_packet) (are_all_releases limits calls off).packets,
      total-map of_packet released_packet (all_releases limits.data_window (data_arrivals calls)),
      total-all bytes_in limits.data_window (data_arrivals calls),
      arrivals_total calls,
    )

-- ---- samples alone

run_few : (run : Run) → samples_of run ≤ counted_of run
run_few (run.Bound stamp first number moment fields bits) = omega arith
run_few (run.Uncertain reason stamp first number moment bits) = omega arith
run_few (run.Raw reason stamp pad) = omega arith

samples_few : (outs : List Out) → samples_told outs ≤ counted_told outs
samples_few [] = omega arith
samples_few (out.Packet buf lost ∷ outs) = samples_few outs
samples_few (out.Run run ∷ outs) = omega (arith, run_few run, samples_few outs)

pub samples_arriving : (profile : PacketProfile) (limits : Limits) (calls : List Call) → AreCallsOf profile calls → is_told calls ≡ false → samples_told (outputs_of limits calls) ≤ payload_bytes calls
samples_arriving profile limits calls h off = omega (arith, samples_few (outputs_of limits calls), counted_arriving profile limits calls h off)

pub samples_ending : (profile : PacketProfile) (limits : Limits) (calls : List Call) → AreCallsOf profile calls → is_told calls ≡ false → samples_told (outputs_of limits (calls ++ EndCall ∷ [])) ≤ payload_bytes calls
samples_ending profile limits calls h off = omega (arith, samples_few (outputs_of limits (calls ++ EndCall ∷ [])), counted_ending profile limits calls h off)
