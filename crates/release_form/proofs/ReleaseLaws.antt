-- Laws of release records: at most one stands first, and it says one thing.
use Rattle.std.proofs.Common.{◌≡◌, ℕ, suc, ◌+◌, ◌*◌, ◌≤◌, List, length, take, drop, get_or, refl, sym, ap, ◌∙◌, subst, ◌↔◌, Option, Some, None, IsSome, arith}
use Rattle.std.proofs.lemmas.List.{length-take-le, take-take, get_or-take}
use Rattle.vrt_words.specs.Words.{words_of}
use Rattle.vrt_words.proofs.WordLaws.{words_of-take}
use Rattle.vrt_time.specs.Time.{TimeStamp}
use Rattle.sample_binder.specs.declared.reason.Reason.{Reason}
use Rattle.sample_binder.specs.declared.reason.Reason.TheVariants.{BeforeFirst, ContextLost, PendingFull, TimelineFull, Ended, FormatChanged, Shape}
use Rattle.sample_binder.specs.declared.out.Run.{Run}
use Rattle.sample_binder.specs.declared.out.Run.TheVariants.{Bound, Uncertain, Raw}
use Rattle.release_form.specs.Rules.{ObeysRefused}
use Rattle.release_form.specs.Refusals.{refusal_number}
use Rattle.release_form.specs.declared.refusal.Refusal.{Refusal as Why}
use Rattle.release_form.specs.declared.refusal.Refusal.TheVariants.{TooLarge, Malformed, NoRoute, Late, Repeat, Conflict, NotAddressed, Reused, ScheduleFull, Answer}
use Rattle.release_form.specs.Positions.{word}
use Rattle.sample_binder.specs.Reasons.{number_of, detail_of}
use Rattle.release_form.specs.Layout.{front_of, front_of_run, kind_of_run, IsLateStampAt}
use Rattle.release_form.specs.Release.{IsRelease, StandsFirst}
use Rattle.release_form.specs.Steps.{IsFirstRecord, IsReadAs, IsNoRecord}
use Rattle.release_form.specs.declared.shown.Shown.{Shown}
use Rattle.release_form.specs.declared.shown.Shown.TheVariants.{Run as ARun, Ack, Refused, Version, End}

-- a row of the table has one reason
pub one_reason : (r s : Reason) → number_of r ≡ number_of s → detail_of r ≡ detail_of s → r ≡ s
one_reason BeforeFirst BeforeFirst e f = refl
one_reason (ContextLost m) (ContextLost n) e f = ap ContextLost f
one_reason PendingFull PendingFull e f = refl
one_reason TimelineFull TimelineFull e f = refl
one_reason Ended Ended e f = refl
one_reason FormatChanged FormatChanged e f = refl
one_reason Shape Shape e f = refl
one_reason r s e f = absurd (omega (arith, e))

one_late_stamp : (s t : Option TimeStamp) (bytes : List ℕ) (reason i : ℕ) → IsLateStampAt s bytes i → IsLateStampAt t bytes i
    → (IsSome s ↔ (reason ≡ 4)) → (IsSome t ↔ (reason ≡ 4)) → s ≡ t
one_late_stamp None None bytes reason i h g p q = refl
one_late_stamp (Some a) (Some b) bytes reason i h g p q = ap Some (h.stamp_is ∙ sym g.stamp_is)
one_late_stamp (Some a) None bytes reason i h g p q = absurd (let e = q.1 (p.0 refl) in cc)
one_late_stamp None (Some b) bytes reason i h g p q = absurd (let e = p.1 (q.0 refl) in cc)

-- a late packet alone has this number
late_number : (refusal : Why) → refusal_number refusal ≡ 4 → refusal ≡ Late
late_number TooLarge e = absurd (omega (arith, e))
late_number Malformed e = absurd (omega (arith, e))
late_number NoRoute e = absurd (omega (arith, e))
late_number Late e = refl
late_number Repeat e = absurd (omega (arith, e))
late_number Conflict e = absurd (omega (arith, e))
late_number NotAddressed e = absurd (omega (arith, e))
late_number Reused e = absurd (omega (arith, e))
late_number ScheduleFull e = absurd (omega (arith, e))
late_number Answer e = absurd (omega (arith, e))

-- which its reason shows
late_reason : (frame reason : ℕ) (stamp : Option TimeStamp) → ObeysRefused frame reason stamp → IsSome stamp ↔ (reason ≡ 4)
late_reason frame reason stamp o =
    (λ some. o.reason_is ∙ ap refusal_number (o.late.0 some), λ e. o.late.1 (late_number o.refusal (sym o.reason_is ∙ e)))

most_kind : (run : Run) → kind_of_run run ≤ 3
most_kind (Bound stamp first number moment fields bits) = omega arith
most_kind (Uncertain reason stamp first number moment bits) = omega arith
most_kind (Raw reason stamp pad) = omega arith

one_run : (s p l s' p' l' : ℕ) (a b : Run) (part other bytes : List ℕ) → IsRelease (ARun s p l a) part bytes → IsRelease (ARun s' p' l' b) other bytes
    → ARun s p l a ≡ ARun s' p' l' b
one_run s p l s' p' l' (Bound t i n m f w) (Bound t' i' n' m' f' w') part other bytes h g =
    let x = h.positions in
    let y = g.positions in
    cc (
      x.stream_is,
      x.port_is.port_is,
      x.lost_is,
      x.run_is.stamp_is.stamp_is,
      x.run_is.first_is,
      x.run_is.number_is,
      x.run_is.moment_is,
      x.run_is.fields_are,
      x.run_is.sixteen,
      y.stream_is,
      y.port_is.port_is,
      y.lost_is,
      y.run_is.stamp_is.stamp_is,
      y.run_is.first_is,
      y.run_is.number_is,
      y.run_is.moment_is,
      y.run_is.fields_are,
      y.run_is.sixteen,
    )
one_run s p l s' p' l' (Uncertain r t i n m w) (Uncertain r' t' i' n' m' w') part other bytes h g =
    let x = h.positions in
    let y = g.positions in
    let why = one_reason r r' (x.run_is.reason_is.number_is ∙ sym y.run_is.reason_is.number_is) (x.run_is.reason_is.detail_is ∙ sym y.run_is.reason_is.detail_is) in
    cc (
      why,
      x.stream_is,
      x.port_is.port_is,
      x.lost_is,
      x.run_is.stamp_is.stamp_is,
      x.run_is.first_is,
      x.run_is.number_is,
      x.run_is.moment_is,
      x.run_is.sixteen,
      y.stream_is,
      y.port_is.port_is,
      y.lost_is,
      y.run_is.stamp_is.stamp_is,
      y.run_is.first_is,
      y.run_is.number_is,
      y.run_is.moment_is,
      y.run_is.sixteen,
    )
one_run s p l s' p' l' (Raw r t pad) (Raw r' t' pad') part other bytes h g =
    let x = h.positions in
    let y = g.positions in
    let why = one_reason r r' (x.run_is.reason_is.number_is ∙ sym y.run_is.reason_is.number_is) (x.run_is.reason_is.detail_is ∙ sym y.run_is.reason_is.detail_is) in
    cc (
      why,
      x.stream_is,
      x.port_is.port_is,
      x.lost_is,
      x.run_is.stamp_is.stamp_is,
      x.run_is.pad_is,
      y.stream_is,
      y.port_is.port_is,
      y.lost_is,
      y.run_is.stamp_is.stamp_is,
      y.run_is.pad_is,
    )
one_run s p l s' p' l' a b part other bytes h g = absurd (omega (arith, h.kind_is, g.kind_is))

-- bytes say one thing as a record
pub one_value : (a b : Shown) (part other bytes : List ℕ) → IsRelease a part bytes → IsRelease b other bytes → a ≡ b
one_value (ARun s p l a) (ARun s' p' l' b) part other bytes h g = one_run s p l s' p' l' a b part other bytes h g
one_value (ARun s p l a) b part other bytes h g = absurd (omega (arith, h.kind_is, g.kind_is, most_kind a))
one_value a (ARun s p l b) part other bytes h g = absurd (omega (arith, h.kind_is, g.kind_is, most_kind b))
one_value (Ack p) (Ack q) part other bytes h g = ap Ack (h.positions.port_is ∙ sym g.positions.port_is)
one_value (Refused n p r d s) (Refused n' p' r' d' s') part other bytes h g =
    let x = h.positions in
    let y = g.positions in
    let same : r ≡ r' = x.reason_is ∙ sym y.reason_is in
    let late : IsSome s' ↔ (r ≡ 4) = subst (λ k. IsSome s' ↔ (k ≡ 4)) (sym same) (late_reason n' r' s' g.obeys) in
    let stamp = one_late_stamp s s' bytes r 7 x.stamp_is y.stamp_is (late_reason n r s h.obeys) late in
    cc (stamp, x.frame_is, x.port_is.port_is, x.reason_is, x.detail_is, y.frame_is, y.port_is.port_is, y.reason_is, y.detail_is)
one_value (Version p) (Version q) part other bytes h g = ap Version (h.positions.port_is ∙ sym g.positions.port_is)
one_value (End c) (End d) part other bytes h g = ap End (h.positions ∙ sym g.positions)
one_value a b part other bytes h g = absurd (omega (arith, h.kind_is, g.kind_is))

-- a word of the front is one of the whole
pub word-take : (i size : ℕ) (bytes : List ℕ) → 4 * suc i ≤ size → word (take size bytes) i ≡ word bytes i
word-take i size bytes h =
    let same : take (suc i) (words_of (take size bytes)) ≡ take (suc i) (words_of bytes) =
    sym (words_of-take (suc i) (take size bytes)) ∙ ap (λ xs. words_of xs) (take-take (4 * suc i) size bytes h) ∙ words_of-take (suc i) bytes in
    sym (get_or-take (suc i) (words_of (take size bytes)) i 0 (omega arith)) ∙ ap (λ ws. get_or ws i 0) same ∙ get_or-take (suc i) (words_of bytes) i 0 (omega arith)

-- one number of bytes is that of the record that stands first
pub one_first : (a b bytes : List ℕ) → IsFirstRecord a bytes → IsFirstRecord b bytes → a ≡ b
one_first a b bytes p q =
    let wa : word a 1 ≡ word bytes 1 = ap (λ xs. word xs 1) p.front ∙ word-take 1 (length a) bytes p.there in
    let wb : word b 1 ≡ word bytes 1 = ap (λ xs. word xs 1) q.front ∙ word-take 1 (length b) bytes q.there in
    let same : length a ≡ length b = omega (arith, wa, wb, p.length_is, q.length_is) in
    p.front ∙ ap (λ n. take n bytes) same ∙ sym q.front

pub run_front_least : (run : Run) → 44 ≤ front_of_run run
run_front_least (Bound stamp first number moment fields bits) = omega arith
run_front_least (Uncertain reason stamp first number moment bits) = omega arith
run_front_least (Raw reason stamp pad) = omega arith

pub front_least : (shown : Shown) → 12 ≤ front_of shown
front_least (ARun stream port lost run) = omega (arith, run_front_least run)
front_least (Ack port) = omega arith
front_least (Refused frame port reason detail stamp) = omega arith
front_least (Version port) = omega arith
front_least (End counts) = omega arith

pub first_of_release : (shown : Shown) (part : List ℕ) (size : ℕ) (bytes : List ℕ) → StandsFirst shown part size bytes → IsFirstRecord (take size bytes) bytes
first_of_release shown part size bytes h =
    let count = length-take-le size bytes h.within in
    record {
      within = omega (arith, count, h.within);
      front = ap (λ n. take n bytes) (sym count);
      there = omega (arith, h.release.whole, front_least shown);
      length_is = h.release.length_is;
    }

-- what is read is the record that stands first
pub record IsSame (mine shown : Shown) (first part : List ℕ) (size : ℕ) : Type 0 where
  pub value_is : mine ≡ shown
  pub part_is : drop (front_of mine) first ≡ part
  pub size_is : length first ≡ size

pub read_first : (first bytes : List ℕ) (mine shown : Shown) (part : List ℕ) (size : ℕ) → IsFirstRecord first bytes → IsReadAs mine first
    → StandsFirst shown part size bytes → IsSame mine shown first part size
read_first first bytes mine shown part size f h s =
    let same : take size bytes ≡ first = one_first (take size bytes) first bytes (first_of_release shown part size bytes s) f in
    let other = subst (λ xs. IsRelease shown part xs) same s.release in
    let value = one_value mine shown (drop (front_of mine) first) part first h other in
    record {
      value_is = value;
      part_is = ap (λ v. drop (front_of v) first) value ∙ sym other.part_is;
      size_is = sym (ap length same) ∙ length-take-le size bytes s.within;
    }

pub none_first : (first bytes : List ℕ) (shown : Shown) (part : List ℕ) (size : ℕ) → IsFirstRecord first bytes → IsNoRecord first → ¬ StandsFirst shown part size bytes
none_first first bytes shown part size f none s =
    let same : take size bytes ≡ first = one_first (take size bytes) first bytes (first_of_release shown part size bytes s) f in
    none shown part (subst (λ xs. IsRelease shown part xs) same s.release)

pub first_found : (length_word : ℕ) (bytes : List ℕ) → word bytes 1 ≡ length_word → length_word + 8 ≤ length bytes → IsFirstRecord (take (length_word + 8) bytes) bytes
first_found w bytes e h =
    let count = length-take-le (w + 8) bytes h in
    record {
      within = omega (arith, count);
      front = ap (λ n. take n bytes) (sym count);
      there = omega (arith, count);
      length_is = omega (arith, count, e, word-take 1 (w + 8) bytes (omega arith));
    }

pub one_place : (a b : Shown) (part other : List ℕ) (m n : ℕ) (bytes : List ℕ) → StandsFirst a part m bytes → StandsFirst b other n bytes
    → (a ≡ b) × (part ≡ other) × (m ≡ n)
one_place a b part other m n bytes p q =
    let f = first_of_release a part m bytes p in
    let h = subst (λ xs. IsRelease a xs (take m bytes)) p.release.part_is p.release in
    let same = read_first (take m bytes) bytes a b other n f h q in
    (same.value_is, p.release.part_is ∙ same.part_is, sym (length-take-le m bytes p.within) ∙ same.size_is)
