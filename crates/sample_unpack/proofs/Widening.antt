-- Samples written one after another as items of 16 bits.
use Rattle.std.proofs.Common.{◌≡◌, ℕ, ◌+◌, ◌-◌, ◌*◌, ◌/◌, ◌%◌, ◌^◌, ◌<◌, ◌≤◌, List, ◌∷◌, ◌++◌, length, take, drop, get_or, sym, ap, ap₂, ◌∙◌, append-nil, arith}
use Rattle.std.proofs.lemmas.List.{take_at, drop_at, drop_more}
use Rattle.sample_unpack.specs.Bits.{bits_of, bits_of_bytes, signed_bits_of, signed_number_of}
use Rattle.sample_unpack.proofs.Bits.{length-bits_of, bits_of_bytes-cons, bits_of_bytes-append, take-bits_of_bytes, drop-bits_of_bytes}
use Rattle.std.proofs.Math.Nat.{pow-le-pow_right}
use Rattle.std.proofs.lemmas.Int.{ints}
use Rattle.std.proofs.lemmas.List.Concat.{flat_map-append}
use Rattle.std.specs.List.{All}
use Rattle.sample_unpack.specs.Samples.{LieWithin, SampleFits, sample_of, sample_at, samples_from, bits_of_sample, bits_of_samples}
use Rattle.sample_unpack.specs.declared.sample.Sample.{Sample}
use Rattle.sample_unpack.proofs.RoundTrip.{bits_kept}
use Rattle.sample_unpack.proofs.Samples.{sample_behind, samples_joined, samples_from-drop, written_rest}
use borrow.Rule.Slice.PartMut.{put_mid}

-- ---- samples of fewer bits have 16 as well

power_most : (w : ℕ) → w ≤ 16 → 2 ^ (w - 1) ≤ 2 ^ 15
power_most w h = pow-le-pow_right {n = 2} (omega arith) {i = w - 1} {j = 15} (omega arith)

fits_more : (w : ℕ) (s : Sample) → w ≤ 16 → SampleFits w s → SampleFits 16 s
fits_more w s h f =
    let p = power_most w h in
    record {
      i = (omega (arith, ints, f.i.0, p), omega (arith, ints, f.i.1, p));
      q = (omega (arith, ints, f.q.0, p), omega (arith, ints, f.q.1, p));
    }

pub all_fit : (w : ℕ) (samples : List Sample) → w ≤ 16 → All (SampleFits w) samples → All (SampleFits 16) samples
all_fit w samples h f = λ k d l. fits_more w _ h (f k d l)

-- ---- pieces

-- the bits of so many samples from bit `start` on
abbrev pub wide : ℕ → List ℕ → ℕ → ℕ → List ℕ
wide w bits start count = bits_of_samples 16 (samples_from w (drop start bits) 0 count)

-- some, and then more from where they end
pub wide_joined : (w : ℕ) (bits : List ℕ) (start place a b : ℕ) → (0 < b → place ≡ start + 2 * w * a)
    → wide w bits start a ++ wide w bits place b ≡ wide w bits start (a + b)
wide_joined w bits start place a b e =
    sym (flat_map-append (bits_of_sample 16) (samples_from w (drop start bits) 0 a) (samples_from w (drop place bits) 0 b))
    ∙ ap (bits_of_samples 16) (samples_joined w bits start place a b e)

-- one
pub wide_one : (w : ℕ) (bits : List ℕ) (place word : ℕ) (sample : Sample) → sample ≡ sample_of w (drop place bits) → bits_of 32 word ≡ bits_of_sample 16 sample
    → bits_of 32 word ≡ wide w bits place 1
wide_one w bits place word sample e s =
    s ∙ ap (bits_of_sample 16) (e ∙ sample_behind w bits place 0 place (omega arith)) ∙ sym (append-nil (bits_of_sample 16 (sample_at w (drop place bits) 0)))

-- the samples from number `first` on
pub wide_from : (w : ℕ) (bits : List ℕ) (first start count : ℕ) → start ≡ 2 * w * first → wide w bits start count ≡ bits_of_samples 16 (samples_from w bits first count)
wide_from w bits first start count e =
    let none : first + 0 ≡ first = omega arith in
    ap (λ n. wide w bits n count) e
    ∙ ap (bits_of_samples 16) (samples_from-drop w bits first 0 count ∙ ap (λ n. samples_from w bits n count) none)

-- a front that is written, and the rest behind it
pub wide_rest : (w : ℕ) (bits : List ℕ) (start place done a b : ℕ) (into rest : List ℕ) → done ≤ length into
    → bits_of_bytes (take done into) ≡ wide w bits start a → bits_of_bytes rest ≡ wide w bits place b → (0 < b → place ≡ start + 2 * w * a)
    → bits_of_bytes (put_mid done (length into - done) into rest) ≡ wide w bits start (a + b)
wide_rest w bits start place done a b into rest l front back e =
    ap bits_of_bytes (written_rest done into rest l)
    ∙ bits_of_bytes-append (take done into) rest
    ∙ ap₂ (λ (xs ys : List ℕ). xs ++ ys) front back
    ∙ wide_joined w bits start place a b e

-- items of 16 bits stand as they are
pub copied : (first number : ℕ) (payload : List ℕ) → LieWithin 16 first number (length payload)
    → bits_of_bytes (take (4 * number) (drop (4 * first) payload)) ≡ bits_of_samples 16 (samples_from 16 (bits_of_bytes payload) first number)
copied first number payload h =
    let m : 8 * (4 * number) ≡ 2 * 16 * number = omega arith in
    let n : 8 * (4 * first) ≡ 2 * 16 * first = omega arith in
    take-bits_of_bytes (4 * number) (drop (4 * first) payload)
    ∙ ap (take (8 * (4 * number))) (drop-bits_of_bytes (4 * first) payload)
    ∙ ap (λ i. take (8 * (4 * number)) (drop i (bits_of_bytes payload))) n
    ∙ ap (λ i. take i (drop (2 * 16 * first) (bits_of_bytes payload))) m
    ∙ sym (bits_kept 16 payload first number h)

-- ---- how many bytes

-- what is left behind the fours lies in the payload
pub rest_fits : (w start room fours bytes : ℕ) → room % 4 ≡ 0 → 16 * fours ≤ room → 8 * start + 2 * w * (room / 4) ≤ 8 * bytes
    → 8 * (start + w * fours) + 0 + 2 * w * ((room - 16 * fours) / 4) ≤ 8 * bytes
rest_fits w start room fours bytes whole l h =
    let rest = (room - 16 * fours) / 4 in
    let all : 4 * fours + rest ≡ room / 4 = omega arith in
    let sized : 2 * w * (4 * fours + rest) ≡ 2 * w * (room / 4) = ap (λ n. 2 * w * n) all in
    omega arith

-- ---- items that are bytes

-- the two bytes of a sample
pub bytes_spelled : (payload : List ℕ) (at : ℕ) → at + 2 ≤ length payload
    → signed_bits_of 16 (signed_number_of (bits_of 8 (get_or payload at 0))) ++ signed_bits_of 16 (signed_number_of (bits_of 8 (get_or payload (at + 1) 0)))
    ≡ bits_of_sample 16 (sample_of 8 (drop (8 * at) (bits_of_bytes payload)))
bytes_spelled payload at l =
    let a = get_or payload at 0 in
    let b = get_or payload (at + 1) 0 in
    let behind = drop (at + 1 + 1) payload in
    let split : drop at payload ≡ a ∷ b ∷ behind =
    drop_more payload at 0 (omega arith) ∙ ap (λ bs. a ∷ bs) (drop_more payload (at + 1) 0 (omega arith)) in
    let rest = bits_of 8 b ++ bits_of_bytes behind in
    let spelled : drop (8 * at) (bits_of_bytes payload) ≡ bits_of 8 a ++ rest =
    sym (drop-bits_of_bytes at payload) ∙ ap bits_of_bytes split ∙ bits_of_bytes-cons a (b ∷ behind) ∙ ap (λ bs. bits_of 8 a ++ bs) (bits_of_bytes-cons b behind) in
    let first : take 8 (drop (8 * at) (bits_of_bytes payload)) ≡ bits_of 8 a =
    ap (take 8) spelled ∙ take_at (bits_of 8 a) rest 8 (length-bits_of 8 a) in
    let second : take 8 (drop 8 (drop (8 * at) (bits_of_bytes payload))) ≡ bits_of 8 b =
    ap (λ bs. take 8 (drop 8 bs)) spelled ∙ ap (take 8) (drop_at (bits_of 8 a) rest 8 (length-bits_of 8 a)) ∙ take_at (bits_of 8 b) (bits_of_bytes behind) 8 (length-bits_of 8 b) in
    ap₂ (λ (xs ys : List ℕ). signed_bits_of 16 (signed_number_of xs) ++ signed_bits_of 16 (signed_number_of ys)) (sym first) (sym second)

-- one more sample of two bytes
pub wide_bytes : (payload : List ℕ) (at high low : ℕ) → at + 2 ≤ length payload
    → bits_of 16 high ≡ signed_bits_of 16 (signed_number_of (bits_of 8 (get_or payload at 0)))
    → bits_of 16 low ≡ signed_bits_of 16 (signed_number_of (bits_of 8 (get_or payload (at + 1) 0)))
    → bits_of 16 high ++ bits_of 16 low ≡ wide 8 (bits_of_bytes payload) (8 * at) 1
wide_bytes payload at high low l h e =
    let place : 8 * at ≡ 8 * at + 2 * 8 * 0 = omega arith in
    let sample = sample_of 8 (drop (8 * at) (bits_of_bytes payload)) in
    ap₂ (λ (xs ys : List ℕ). xs ++ ys) h e
    ∙ bytes_spelled payload at l
    ∙ ap (bits_of_sample 16) (sample_behind 8 (bits_of_bytes payload) (8 * at) 0 (8 * at) place)
    ∙ sym (append-nil (bits_of_sample 16 (sample_at 8 (drop (8 * at) (bits_of_bytes payload)) 0)))
