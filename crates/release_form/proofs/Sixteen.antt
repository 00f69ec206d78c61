-- Samples that are written with 16 bits an item.
use Rattle.std.proofs.Common.{◌≡◌, ℕ, ◌+◌, ◌-◌, ◌*◌, ◌^◌, ◌≤◌, List, [], ◌++◌, length, take, drop, append-nil, sym, ap, ap₂, ◌∙◌, arith}
use Rattle.std.specs.List.{All}
use Rattle.std.proofs.lemmas.Int.{ints}
use Rattle.std.proofs.lemmas.Slice.{take-put_mid}
use Rattle.std.proofs.lemmas.List.FromFn.{length-map-range_with_len}
use Rattle.std.proofs.lemmas.List.Concat.{flat_map-append}
use borrow.Rule.Slice.PartMut.{put_mid}
use Rattle.std.proofs.Math.Nat.{pow-le-pow_right}
use Rattle.sample_unpack.specs.Bits.{bits_of_bytes}
use Rattle.sample_unpack.specs.Samples.{LieWithin, SampleFits, bits_of_sample, bits_of_samples, samples_from, sample_at}
use Rattle.sample_unpack.specs.declared.sample.Sample.{Sample}
use Rattle.sample_unpack.proofs.Bits.{bits_of_bytes-append, bits_of_bytes-nil, take-bits_of_bytes, drop-bits_of_bytes}
use Rattle.sample_unpack.proofs.Samples.{samples_from-add}
use Rattle.sample_unpack.proofs.RoundTrip.{bits_kept, read_back, samples_fit}
use Rattle.sample_binder.specs.RunRules.{HoldsRun}
use Rattle.release_form.specs.Release.{AreSamples}

power_most : (w : ℕ) → w ≤ 16 → 2 ^ (w - 1) ≤ 2 ^ 15
power_most w h = pow-le-pow_right {n = 2} (omega arith) {i = w - 1} {j = 15} (omega arith)

fits_more : (w : ℕ) (s : Sample) → w ≤ 16 → SampleFits w s → SampleFits 16 s
fits_more w s h f =
    let p = power_most w h in
    record {
      i = (omega (arith, ints, f.i.0, p), omega (arith, ints, f.i.1, p));
      q = (omega (arith, ints, f.q.0, p), omega (arith, ints, f.q.1, p));
    }

-- samples of fewer bits have 16 as well
pub all_fit : (w : ℕ) (samples : List Sample) → w ≤ 16 → All (SampleFits w) samples → All (SampleFits 16) samples
all_fit w samples h f = λ k d l. fits_more w _ h (f k d l)

-- samples of 16 bits stand as they are written
pub copied : (first number : ℕ) (payload : List ℕ) → LieWithin 16 first number (length payload)
    → AreSamples 16 first number payload (take (4 * number) (drop (4 * first) payload))
copied first number payload h =
    let m : 8 * (4 * number) ≡ 2 * 16 * number = omega arith in
    let n : 8 * (4 * first) ≡ 2 * 16 * first = omega arith in
    take-bits_of_bytes (4 * number) (drop (4 * first) payload)
    ∙ ap (take (8 * (4 * number))) (drop-bits_of_bytes (4 * first) payload)
    ∙ ap (λ i. take (8 * (4 * number)) (drop i (bits_of_bytes payload))) n
    ∙ ap (λ i. take i (drop (2 * 16 * first) (bits_of_bytes payload))) m
    ∙ sym (bits_kept 16 payload first number h)

-- samples, and then more
pub more_samples : (w first done count k : ℕ) (payload into part : List ℕ)
    → bits_of_bytes (take (4 * done) into) ≡ bits_of_samples 16 (samples_from w (bits_of_bytes payload) first done) → AreSamples w (first + done) count payload part
    → length part ≡ 4 * count → 4 * done ≤ length into
    → bits_of_bytes (take (4 * (done + count)) (put_mid (4 * done) k into part)) ≡ bits_of_samples 16 (samples_from w (bits_of_bytes payload) first (done + count))
more_samples w first done count k payload into part before now size within =
    let bits = bits_of_bytes payload in
    ap (λ xs. bits_of_bytes xs) (take-put_mid (4 * done) k into part (4 * (done + count)) (omega (arith, size)) within)
    ∙ bits_of_bytes-append (take (4 * done) into) part
    ∙ ap₂ (λ (xs ys : List ℕ). xs ++ ys) before now
    ∙ sym (flat_map-append (bits_of_sample 16) (samples_from w bits first done) (samples_from w bits (first + done) count))
    ∙ ap (bits_of_samples 16) (sym (samples_from-add w bits first done count))

pub none_written : bits_of_bytes [] ≡ []
none_written = bits_of_bytes-nil

-- and they are read again
pub samples_again : (bits first number : ℕ) (payload part : List ℕ) → HoldsRun bits first number (length payload) → AreSamples bits first number payload part
    → samples_from 16 (bits_of_bytes part) 0 number ≡ samples_from bits (bits_of_bytes payload) first number
samples_again bits first number payload part h e =
    let samples = samples_from bits (bits_of_bytes payload) first number in
    let count : length samples ≡ number = length-map-range_with_len (sample_at bits (bits_of_bytes payload)) first number in
    let fit = all_fit bits samples h.most_bits (samples_fit bits payload first number (omega (arith, h.least_bits)) h.within) in
    ap (λ n. samples_from 16 (bits_of_bytes part) 0 n) (sym count)
    ∙ read_back 16 samples (bits_of_bytes part) [] (omega arith) fit (e ∙ sym (append-nil (bits_of_samples 16 samples)))
