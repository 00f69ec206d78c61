-- A value with a payload or a packet has one record.
use Rattle.std.proofs.Common.{◌≡◌, ℕ, zero, suc, ◌+◌, ◌*◌, ◌/◌, ◌%◌, ◌^◌, ◌≤◌, List, [], ◌∷◌, ◌++◌, map, length, take, drop, get_or, refl, sym, ap, ap₂, ◌∙◌, subst, Option, Some, None, take-append-drop, arith}
use Rattle.std.specs.List.{range_with_len}
use Rattle.std.proofs.lemmas.List.{length-take-le, drop_more, take_at, drop_at}
use Rattle.std.proofs.Math.Seq.{take-add}
use Rattle.vrt_words.specs.Words.{words_of, AreBytes}
use Rattle.vrt_words.proofs.WordLaws.{words_of-take, words_of-words, length-words_of, one_spelling, AreBytes-take, AreBytes-drop}
use Rattle.vrt_time.specs.Time.{TimeStamp}
use Rattle.sample_unpack.specs.Bits.{bits_of, bits_of_bytes, number_of}
use Rattle.sample_unpack.proofs.Bits.{number_of-bits_of, length-bits_of, bits_of_bytes-cons, length-bits_of_bytes}
use Rattle.sample_binder.specs.declared.out.Run.{Run}
use Rattle.sample_binder.specs.declared.out.Run.TheVariants.{Bound, Uncertain, Raw}
use Rattle.release_form.specs.Positions.{word, double, quadruple, stamp_at}
use Rattle.release_form.specs.Layout.{front_of, IsLateStampAt}
use Rattle.release_form.specs.Release.{IsRelease, IsRecordOf, IsPartOf, IsPartOfRun, as_read}
use Rattle.release_form.specs.Front.{high_word, low_word, late_words, count_words, front_words}
use Rattle.release_form.proofs.Laid.{reads_same}
use Rattle.release_form.specs.declared.shown.Shown.{Shown}
use Rattle.release_form.specs.declared.shown.Shown.TheVariants.{Run as ARun, Ack, Refused, Version, End}

-- so many words from a place on, one by one
pub words_from : (k i : ℕ) (ws : List ℕ) → i + k ≤ length ws → take k (drop i ws) ≡ map (λ j. get_or ws j 0) (range_with_len i k)
words_from zero i ws h = refl
words_from (suc k) i ws h = ap (take (suc k)) (drop_more ws i 0 (omega arith)) ∙ ap (λ xs. get_or ws i 0 ∷ xs) (words_from k (i + 1) ws (omega arith))

-- ---- numbers of several words

record Halves (n : ℕ) (bytes : List ℕ) (i : ℕ) : Type 0 where
  high : word bytes i ≡ high_word n
  low : word bytes (i + 1) ≡ low_word n

halves : (n : ℕ) (bytes : List ℕ) (i : ℕ) → AreBytes bytes → n ≡ double bytes i → Halves n bytes i
halves n bytes i fits e =
    let low = words_of-words bytes fits (i + 1) in
    record { high = omega (arith, e, low); low = omega (arith, e, low) }

record Quarters (n : ℕ) (bytes : List ℕ) (i : ℕ) : Type 0 where
  first : word bytes i ≡ high_word (n / 2 ^ 64)
  second : word bytes (i + 1) ≡ low_word (n / 2 ^ 64)
  third : word bytes (i + 2) ≡ high_word (n % 2 ^ 64)
  fourth : word bytes (i + 2 + 1) ≡ low_word (n % 2 ^ 64)

quarters : (n : ℕ) (bytes : List ℕ) (i : ℕ) → AreBytes bytes → n ≡ quadruple bytes i → Quarters n bytes i
quarters n bytes i fits e =
    let a = words_of-words bytes fits (i + 1) in
    let b = words_of-words bytes fits (i + 2) in
    let c = words_of-words bytes fits (i + 2 + 1) in
    let upper : n / 2 ^ 64 ≡ double bytes i = omega (arith, e, b, c) in
    let lower : n % 2 ^ 64 ≡ double bytes (i + 2) = omega (arith, e, b, c) in
    let x = halves (n / 2 ^ 64) bytes i fits upper in
    let y = halves (n % 2 ^ 64) bytes (i + 2) fits lower in
    record { first = x.high; second = x.low; third = y.high; fourth = y.low }

record StampWords (stamp : TimeStamp) (bytes : List ℕ) (i : ℕ) : Type 0 where
  seconds : word bytes i ≡ stamp.seconds
  high : word bytes (i + 1) ≡ high_word stamp.picos
  low : word bytes (i + 1 + 1) ≡ low_word stamp.picos

stamp_told : (stamp : TimeStamp) (bytes : List ℕ) (i : ℕ) → AreBytes bytes → stamp ≡ stamp_at bytes i → StampWords stamp bytes i
stamp_told stamp bytes i fits e =
    let h = halves stamp.picos bytes (i + 1) fits (ap (λ s. s.picos) e) in
    record { seconds = sym (ap (λ s. s.seconds) e); high = h.high; low = h.low }

-- ---- the words in front of a record are those that a writer puts there

run_front : (stream port lost : ℕ) (run : Run) (part bytes : List ℕ) → AreBytes bytes → IsRelease (as_read (ARun stream port lost run)) part bytes
    → words_of (take (front_of (ARun stream port lost run)) bytes) ≡ front_words (ARun stream port lost run) (word bytes 1)
run_front stream port lost (Bound stamp first number moment fields bits) part bytes fits h =
    let p = h.positions in
    let r = p.run_is in
    let long : 33 ≤ length (words_of bytes) = omega (arith, h.whole, length-words_of bytes) in
    let s = stamp_told stamp bytes 5 fits r.stamp_is.stamp_is in
    let m = quarters moment bytes 10 fits r.moment_is in
    let ws = words_of bytes in
    let front : take 14 ws ≡ map (λ j. get_or ws j 0) (range_with_len 0 14) = words_from 14 0 ws (omega arith) in
    let kind : word bytes 0 ≡ 1 = h.kind_is in
    let told : take 14 ws ≡ take 14 (front_words (ARun stream port lost (Bound stamp first number moment fields bits)) (word bytes 1)) =
    front ∙ cc (kind, p.stream_is, p.port_is.port_is, p.lost_is, s.seconds, s.high, s.low, r.first_is, r.number_is, m.first, m.second, m.third, m.fourth) in
    words_of-take 33 bytes ∙ take-add 14 19 ws ∙ ap₂ (λ (xs ys : List ℕ). xs ++ ys) told (sym r.fields_are)
run_front stream port lost (Uncertain reason stamp first number moment bits) part bytes fits h =
    let p = h.positions in
    let r = p.run_is in
    let ws = words_of bytes in
    let long : 16 ≤ length ws = omega (arith, h.whole, length-words_of bytes) in
    let s = stamp_told stamp bytes 7 fits r.stamp_is.stamp_is in
    let m = quarters moment bytes 12 fits r.moment_is in
    let front : take 16 ws ≡ map (λ j. get_or ws j 0) (range_with_len 0 16) = words_from 16 0 ws (omega arith) in
    let kind : word bytes 0 ≡ 2 = h.kind_is in
    words_of-take 16 bytes ∙ front
    ∙ cc (
      kind,
      p.stream_is,
      p.port_is.port_is,
      p.lost_is,
      r.reason_is.number_is,
      r.reason_is.detail_is,
      s.seconds,
      s.high,
      s.low,
      r.first_is,
      r.number_is,
      m.first,
      m.second,
      m.third,
      m.fourth,
    )
run_front stream port lost (Raw reason stamp pad) part bytes fits h =
    let p = h.positions in
    let r = p.run_is in
    let ws = words_of bytes in
    let long : 11 ≤ length ws = omega (arith, h.whole, length-words_of bytes) in
    let s = stamp_told stamp bytes 7 fits r.stamp_is.stamp_is in
    let front : take 11 ws ≡ map (λ j. get_or ws j 0) (range_with_len 0 11) = words_from 11 0 ws (omega arith) in
    let kind : word bytes 0 ≡ 3 = h.kind_is in
    words_of-take 11 bytes ∙ front
    ∙ cc (kind, p.stream_is, p.port_is.port_is, p.lost_is, r.reason_is.number_is, r.reason_is.detail_is, s.seconds, s.high, s.low, r.pad_is)

late_told : (stamp : Option TimeStamp) (bytes : List ℕ) → AreBytes bytes → IsLateStampAt stamp bytes 7
    → (word bytes 7 ∷ word bytes 8 ∷ word bytes 9 ∷ []) ≡ late_words stamp
late_told None bytes fits h =
    let picos : double bytes 8 ≡ 0 = ap (λ s. s.picos) h in
    let s = ap (λ s. s.seconds) h in
    let high : word bytes 8 ≡ 0 = omega arith in
    let low : word bytes 9 ≡ 0 = omega arith in
    cc
late_told (Some stamp) bytes fits h =
    let s = stamp_told stamp bytes 7 fits h.stamp_is in
    cc (s.high, s.low)

counts_told : (counts bytes : List ℕ) → AreBytes bytes
    → counts ≡ (double bytes 2 ∷ double bytes 4 ∷ double bytes 6 ∷ double bytes 8 ∷ double bytes 10 ∷ double bytes 12 ∷ double bytes 14 ∷ [])
    → map (λ j. word bytes j) (range_with_len 2 14) ≡ count_words counts
counts_told counts bytes fits e =
    let at : (i : ℕ) → Halves (double bytes i) bytes i = λ i. halves (double bytes i) bytes i fits refl in
    let two = at 2 in
    let four = at 4 in
    let six = at 6 in
    let eight = at 8 in
    let ten = at 10 in
    let twelve = at 12 in
    let fourteen = at 14 in
    cc (two.high, two.low, four.high, four.low, six.high, six.low, eight.high, eight.low, ten.high, ten.low, twelve.high, twelve.low, fourteen.high, fourteen.low)
    ∙ ap (λ cs. count_words cs) (sym e)

front_told : (shown : Shown) (part bytes : List ℕ) → AreBytes bytes → IsRelease (as_read shown) part bytes
    → words_of (take (front_of shown) bytes) ≡ front_words shown (word bytes 1)
front_told (ARun stream port lost run) part bytes fits h = run_front stream port lost run part bytes fits h
front_told (Ack port) part bytes fits h =
    let ws = words_of bytes in
    let long : 3 ≤ length ws = omega (arith, h.whole, length-words_of bytes) in
    let front : take 3 ws ≡ map (λ j. get_or ws j 0) (range_with_len 0 3) = words_from 3 0 ws (omega arith) in
    let kind : word bytes 0 ≡ 4 = h.kind_is in
    words_of-take 3 bytes ∙ front ∙ cc (kind, h.positions.port_is)
front_told (Refused frame port reason detail stamp) part bytes fits h =
    let p = h.positions in
    let ws = words_of bytes in
    let long : 10 ≤ length ws = omega (arith, h.whole, length-words_of bytes) in
    let f = halves frame bytes 2 fits p.frame_is in
    let front : take 10 ws ≡ map (λ j. get_or ws j 0) (range_with_len 0 10) = words_from 10 0 ws (omega arith) in
    let kind : word bytes 0 ≡ 5 = h.kind_is in
    words_of-take 10 bytes ∙ front ∙ cc (kind, f.high, f.low, p.port_is.port_is, p.reason_is, p.detail_is, late_told stamp bytes fits p.stamp_is)
front_told (Version port) part bytes fits h =
    let ws = words_of bytes in
    let long : 3 ≤ length ws = omega (arith, h.whole, length-words_of bytes) in
    let front : take 3 ws ≡ map (λ j. get_or ws j 0) (range_with_len 0 3) = words_from 3 0 ws (omega arith) in
    let kind : word bytes 0 ≡ 6 = h.kind_is in
    words_of-take 3 bytes ∙ front ∙ cc (kind, h.positions.port_is)
front_told (End counts) part bytes fits h =
    let ws = words_of bytes in
    let long : 16 ≤ length ws = omega (arith, h.whole, length-words_of bytes) in
    let front : take 16 ws ≡ map (λ j. get_or ws j 0) (range_with_len 0 16) = words_from 16 0 ws (omega arith) in
    let kind : word bytes 0 ≡ 7 = h.kind_is in
    words_of-take 16 bytes ∙ front ∙ ap₂ (λ (k : ℕ) (xs : List ℕ). k ∷ word bytes 1 ∷ xs) kind (counts_told counts bytes fits h.positions)

-- ---- bytes with the same bits are the same

one_bits : (xs ys : List ℕ) → AreBytes xs → AreBytes ys → bits_of_bytes xs ≡ bits_of_bytes ys → xs ≡ ys
one_bits [] [] p q e = refl
one_bits [] (y ∷ ys) p q e = absurd (omega (arith, ap length e, length-bits_of_bytes [], length-bits_of_bytes (y ∷ ys)))
one_bits (x ∷ xs) [] p q e = absurd (omega (arith, ap length e, length-bits_of_bytes [], length-bits_of_bytes (x ∷ xs)))
one_bits (x ∷ xs) (y ∷ ys) p q e =
    let f : bits_of 8 x ++ bits_of_bytes xs ≡ bits_of 8 y ++ bits_of_bytes ys = sym (bits_of_bytes-cons x xs) ∙ e ∙ bits_of_bytes-cons y ys in
    let first : bits_of 8 x ≡ bits_of 8 y =
    sym (take_at (bits_of 8 x) (bits_of_bytes xs) 8 (length-bits_of 8 x)) ∙ ap (take 8) f ∙ take_at (bits_of 8 y) (bits_of_bytes ys) 8 (length-bits_of 8 y) in
    let rest : bits_of_bytes xs ≡ bits_of_bytes ys =
    sym (drop_at (bits_of 8 x) (bits_of_bytes xs) 8 (length-bits_of 8 x)) ∙ ap (drop 8) f ∙ drop_at (bits_of 8 y) (bits_of_bytes ys) 8 (length-bits_of 8 y) in
    let same : x % 2 ^ 8 ≡ y % 2 ^ 8 = sym (number_of-bits_of 8 x) ∙ ap number_of first ∙ number_of-bits_of 8 y in
    ap₂ (λ (b : ℕ) (bs : List ℕ). b ∷ bs) (omega (arith, same, p 0, q 0)) (one_bits xs ys (λ i. p (suc i)) (λ i. q (suc i)) rest)

one_run_part : (run : Run) (payload a b : List ℕ) → AreBytes a → AreBytes b → IsPartOfRun run payload a → IsPartOfRun run payload b → a ≡ b
one_run_part (Bound stamp first number moment fields bits) payload a b p q e f = one_bits a b p q (e ∙ sym f)
one_run_part (Uncertain reason stamp first number moment bits) payload a b p q e f = one_bits a b p q (e ∙ sym f)
one_run_part (Raw reason stamp pad) payload a b p q e f = e ∙ sym f

one_part : (shown : Shown) (payload a b : List ℕ) → AreBytes a → AreBytes b → IsPartOf shown payload a → IsPartOf shown payload b → a ≡ b
one_part (ARun stream port lost run) payload a b p q e f = one_run_part run payload a b p q e f
one_part (Ack port) payload a b p q e f = e ∙ sym f
one_part (Refused frame port reason detail stamp) payload a b p q e f = e ∙ sym f
one_part (Version port) payload a b p q e f = e ∙ sym f
one_part (End counts) payload a b p q e f = e ∙ sym f

-- the front of whole words
whole_front : (n : ℕ) (xs : List ℕ) → 4 * n ≤ length xs → length (take (4 * n) xs) ≡ 4 * length (words_of (take (4 * n) xs))
whole_front n xs h = omega (arith, length-take-le (4 * n) xs h, length-words_of (take (4 * n) xs))

pub one_record : (shown : Shown) (payload a b : List ℕ) → AreBytes a → AreBytes b → IsRecordOf shown payload a → IsRecordOf shown payload b → a ≡ b
one_record shown payload a b p q r s =
    let same = reads_same shown in
    let n = same.words.0 in
    let front : front_of (as_read shown) ≡ 4 * n = same.front_is ∙ same.words.1 in
    let pa : AreBytes r.part = subst AreBytes (sym r.release.part_is) (AreBytes-drop (front_of (as_read shown)) a p) in
    let pb : AreBytes s.part = subst AreBytes (sym s.release.part_is) (AreBytes-drop (front_of (as_read shown)) b q) in
    let part : r.part ≡ s.part = one_part shown payload r.part s.part pa pb r.part_is s.part_is in
    let size : length a ≡ length b = omega (arith, r.release.whole, s.release.whole, ap length part) in
    let body : word a 1 ≡ word b 1 = omega (arith, size, r.release.length_is, s.release.length_is) in
    let words : words_of (take (4 * n) a) ≡ words_of (take (4 * n) b) =
    ap (λ k. words_of (take k a)) (sym same.words.1) ∙ front_told shown r.part a p r.release ∙ ap (front_words shown) body ∙ sym (front_told shown s.part b q s.release)
    ∙ ap (λ k. words_of (take k b)) same.words.1 in
    let long : 4 * n ≤ length a = omega (arith, r.release.whole, front) in
    let fronts : take (4 * n) a ≡ take (4 * n) b =
    one_spelling (take (4 * n) a) (take (4 * n) b) (AreBytes-take (4 * n) a p) (AreBytes-take (4 * n) b q) (whole_front n a long)
    (whole_front n b (omega (arith, long, size))) words in
    let parts : drop (4 * n) a ≡ drop (4 * n) b =
    ap (λ k. drop k a) (sym front) ∙ sym r.release.part_is ∙ part ∙ s.release.part_is ∙ ap (λ k. drop k b) front in
    sym (take-append-drop (4 * n) a) ∙ ap₂ (λ (xs ys : List ℕ). xs ++ ys) fronts parts ∙ take-append-drop (4 * n) b
