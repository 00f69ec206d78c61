-- What is put behind the bytes of a buffer.
use Rattle.std.proofs.Common.{◌≡◌, ℕ, zero, suc, ◌+◌, ◌*◌, ◌<◌, ◌≤◌, List, [], ◌∷◌, ◌++◌, length, take, drop, append_assoc, append-nil, refl, subst, sym, ap, ap₂, ◌∙◌, arith}
use Rattle.std.proofs.lemmas.List.{length-append, length-drop, length-take-le}
use Rattle.std.proofs.lemmas.List.Concat.{flat_map-append}
use Rattle.vrt_words.specs.Words.{words_of, AreBytes}
use Rattle.sample_unpack.specs.Bits.{bits_of_bytes}
use Rattle.sample_unpack.specs.Samples.{LieWithin, bits_of_sample, bits_of_samples, samples_from}
use Rattle.sample_unpack.proofs.Bits.{bits_of_bytes-append}
use Rattle.sample_unpack.proofs.Samples.{samples_from-add}
use Rattle.sample_binder.specs.declared.out.Run.{Run}
use Rattle.sample_binder.specs.declared.out.Run.TheVariants.{Bound, Uncertain, Raw}
use Rattle.release_form.specs.Front.{front_words, IsTyped}
use Rattle.release_form.specs.Layout.{front_of, front_of_run}
use Rattle.release_form.specs.Rules.{Obeys}
use Rattle.release_form.specs.Sizes.{GoesWith, part_size, run_part_size, size_with}
use Rattle.release_form.specs.Release.{AreSamples, IsBehind, IsPartOf, IsPushed, IsRecordOf}
use Rattle.release_form.specs.declared.shown.Shown.{Shown}
use Rattle.release_form.specs.declared.shown.Shown.TheVariants.{Run as ARun, Ack, Refused, Version, End}
use Rattle.release_form.proofs.Laid.{record_of}
use Rattle.release_form.proofs.Sixteen.{copied, none_written}

bytes_append : (xs ys : List ℕ) → AreBytes xs → AreBytes ys → AreBytes (xs ++ ys)
bytes_append [] ys p q i = q i
bytes_append (x ∷ xs) ys p q zero = p 0
bytes_append (x ∷ xs) ys p q (suc i) = bytes_append xs ys (λ k. p (suc k)) q i

-- ---- samples

pub no_samples : (bits first : ℕ) (payload before : List ℕ) → IsBehind (AreSamples bits first 0 payload) 0 before before
no_samples bits first payload before = record { bytes = []; fit = λ i. omega arith; size_is = refl; behind = sym (append-nil before); is = none_written }

pub more_behind : (bits first done count : ℕ) (payload before mid after part : List ℕ) → IsBehind (AreSamples bits first done payload) (4 * done) before mid
    → after ≡ mid ++ part → AreBytes part → length part ≡ 4 * count → AreSamples bits (first + done) count payload part
    → IsBehind (AreSamples bits first (done + count) payload) (4 * (done + count)) before after
more_behind bits first done count payload before mid after part h put fit long is =
    let stream = bits_of_bytes payload in record {
      bytes = h.bytes ++ part;
      fit = bytes_append h.bytes part h.fit fit;
      size_is = omega (arith, length-append h.bytes part, h.size_is, long);
      behind = put ∙ ap (λ l. l ++ part) h.behind ∙ append_assoc before h.bytes part;
      is = bits_of_bytes-append h.bytes part ∙ ap₂ (λ (xs ys : List ℕ). xs ++ ys) h.is is
          ∙ sym (flat_map-append (bits_of_sample 16) (samples_from bits stream first done) (samples_from bits stream (first + done) count))
          ∙ ap (bits_of_samples 16) (sym (samples_from-add bits stream first done count));
    }

-- samples of items of 16 bits
pub copied_behind : (bits first number n : ℕ) (payload before after : List ℕ) → bits ≡ 16 → LieWithin bits first number (length payload) → 0 < number → n ≡ 4 * number
    → after ≡ before ++ take n (drop (4 * first) payload) → AreBytes (take n (drop (4 * first) payload))
    → IsBehind (AreSamples bits first number payload) (4 * number) before after
copied_behind bits first number n payload before after e within some all put fit =
    let lies : LieWithin 16 first number (length payload) = subst (λ b. LieWithin b first number (length payload)) e within in
    let room = lies some in record {
      bytes = take (4 * number) (drop (4 * first) payload);
      fit = subst (λ k. AreBytes (take k (drop (4 * first) payload))) all fit;
      size_is = length-take-le (4 * number) (drop (4 * first) payload) (omega (arith, length-drop (4 * first) payload, room));
      behind = put ∙ ap (λ k. before ++ take k (drop (4 * first) payload)) all;
      is = subst (λ b. AreSamples b first number payload (take (4 * number) (drop (4 * first) payload))) (sym e) (copied first number payload lies);
    }

-- ---- a record

run_front_most : (run : Run) → front_of_run run ≤ 132
run_front_most (Bound stamp first number moment fields bits) = omega arith
run_front_most (Uncertain reason stamp first number moment bits) = omega arith
run_front_most (Raw reason stamp pad) = omega arith

pub front_most : (shown : Shown) → front_of shown ≤ 132
front_most (ARun stream port lost run) = run_front_most run
front_most (Ack port) = omega arith
front_most (Refused frame port reason detail stamp) = omega arith
front_most (Version port) = omega arith
front_most (End counts) = omega arith

pub record_behind : (shown : Shown) (payload front before mid after : List ℕ) (body : ℕ) → length front ≡ front_of shown → words_of front ≡ front_words shown body → IsTyped shown
    → Obeys shown → GoesWith shown (length payload) → body + 8 ≡ size_with shown (length payload) → AreBytes front → mid ≡ before ++ front
    → IsBehind (IsPartOf shown payload) (part_size shown (length payload)) mid after → IsPushed shown payload before after
record_behind shown payload front before mid after body count words typed obeys given sized fit put part = record {
  bytes = front ++ part.bytes;
  fit = bytes_append front part.bytes fit part.fit;
  size_is = omega (arith, length-append front part.bytes, count, part.size_is);
  behind = part.behind ∙ ap (λ l. l ++ part.bytes) put ∙ append_assoc before front part.bytes;
  is = record_of shown payload part.bytes front body count words typed obeys given part.size_is part.is (omega (arith, sized, part.size_is));
}

-- ---- the length of a run's record

pub run_size : (stream port lost : ℕ) (run : Run) (payload written : List ℕ) → IsRecordOf (ARun stream port lost run) payload written
    → length written ≡ front_of_run run + run_part_size run (length payload)
run_size stream port lost (Bound stamp first number moment fields bits) payload written r = omega (arith, r.release.whole, r.release.part_length)
run_size stream port lost (Uncertain reason stamp first number moment bits) payload written r = omega (arith, r.release.whole, r.release.part_length)
run_size stream port lost (Raw reason stamp pad) payload written r = omega (arith, r.release.whole, ap (λ l. length l) r.part_is)
