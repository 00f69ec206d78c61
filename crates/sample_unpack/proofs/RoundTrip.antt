-- What is written is read back, and what was read is written again.
use Rattle.std.proofs.Common.{◌≡◌, ℕ, zero, suc, ◌+◌, ◌-◌, ◌*◌, ◌/◌, ◌%◌, ◌^◌, ◌<◌, ◌≤◌, ℤ, pos, negsuc, ◌-ℤ◌, List, [], ◌∷◌, ◌++◌, length, take, drop, refl, sym, ap, ap₂, ◌∙◌, subst, append_assoc, All, mod-eq_of_lt, lit<, pow-suc, mul-le-mul_right, arith}
use Rattle.std.proofs.lemmas.Int.{ints}
use Rattle.std.proofs.lemmas.Nat.{shr_high, mod_low, mul-add-lt}
use Rattle.std.proofs.lemmas.List.{length-append, length-take-le, length-drop, take_at, drop_at, drop-drop}
use Rattle.std.proofs.lemmas.List.Elements.{All-nil, All-cons, All-head, All-tail, All-append, All-take, All-drop}
use Rattle.std.proofs.Math.Seq.{take-add}
use Rattle.sample_unpack.specs.Bits.{bits_of, bits_of_bytes, number_of, signed_number_of, signed_bits_of, FitsBits}
use Rattle.sample_unpack.specs.Samples.{sample_of, samples_from, bits_from, bits_of_sample, bits_of_samples, SampleFits, LieWithin}
use Rattle.sample_unpack.specs.declared.sample.Sample.{Sample}
use Rattle.sample_unpack.proofs.Bits.{length-bits_of, length-bits_of_bytes, bits_of-low, bits_of_bytes-cons, bits_of_bytes-nil}
use Rattle.sample_unpack.proofs.Signed.{signed_number_of-bits_of}
use Rattle.sample_unpack.proofs.Items.{double_is}

-- ---- numbers

signed_split : (k t r : ℕ) → t < 2 → r < 2 ^ k → signed_number_of (bits_of (suc k) (t * 2 ^ k + r)) ≡ pos r -ℤ pos (t * 2 ^ k)
signed_split k t r h l =
    signed_number_of-bits_of k (t * 2 ^ k + r)
    ∙ ap₂ (λ (low high : ℕ). pos low -ℤ pos (high % 2 * 2 ^ k)) (mod_low t k r l) (shr_high t k r l)
    ∙ ap (λ top. pos r -ℤ pos (top * 2 ^ k)) (mod-eq_of_lt h)

read_back_at : (k : ℕ) (z : ℤ) → FitsBits (suc k) z → signed_number_of (signed_bits_of (suc k) z) ≡ z
unfolding signed_bits_of
read_back_at k (pos n) f =
    let low : suc k - 1 ≡ k = omega arith in
    let limit : 2 ^ (suc k - 1) ≡ 2 ^ k = ap (λ e. 2 ^ e) low in
    let below : n < 2 ^ k = omega (arith, ints, f.1) in
    let same : n ≡ 0 * 2 ^ k + n = omega arith in
    let value : pos n -ℤ pos (0 * 2 ^ k) ≡ pos n = omega (arith, ints) in
    ap (λ m. signed_number_of (bits_of (suc k) m)) same ∙ signed_split k 0 n (lit< tt) below ∙ value
read_back_at k (negsuc n) f =
    let low : suc k - 1 ≡ k = omega arith in
    let limit : 2 ^ (suc k - 1) ≡ 2 ^ k = ap (λ e. 2 ^ e) low in
    let below : suc n ≤ 2 ^ k = omega (arith, ints, f.0) in
    let same : 2 ^ suc k - suc n ≡ 1 * 2 ^ k + (2 ^ k - suc n) = omega (arith, pow-suc 2 k) in
    let value : pos (2 ^ k - suc n) -ℤ pos (1 * 2 ^ k) ≡ negsuc n = omega (arith, ints) in
    ap (λ m. signed_number_of (bits_of (suc k) m)) same ∙ signed_split k 1 (2 ^ k - suc n) (lit< tt) (omega arith) ∙ value

-- a number is read back from its bits
pub signed_number_of-signed_bits_of : (w : ℕ) (z : ℤ) → 1 ≤ w → FitsBits w z → signed_number_of (signed_bits_of w z) ≡ z
signed_number_of-signed_bits_of zero z h f = absurd (omega arith)
signed_number_of-signed_bits_of (suc k) z h f = read_back_at k z f

pub length-signed_bits_of : (w : ℕ) (z : ℤ) → length (signed_bits_of w z) ≡ w
unfolding signed_bits_of
length-signed_bits_of w (pos n) = length-bits_of w n
length-signed_bits_of w (negsuc n) = length-bits_of w (2 ^ w - suc n)

-- ---- lists of bits

abbrev pub AreBits : List ℕ → Type 0
AreBits bits = All (λ bit. bit < 2) bits

pub AreBits-bits_of : (w n : ℕ) → AreBits (bits_of w n)
unfolding bits_of
AreBits-bits_of zero n = All-nil (λ bit. bit < 2)
AreBits-bits_of (suc w) n = All-cons (λ bit. bit < 2) (n / 2 ^ w % 2) (bits_of w n) (omega arith) (AreBits-bits_of w n)

pub AreBits-bits_of_bytes : (xs : List ℕ) → AreBits (bits_of_bytes xs)
AreBits-bits_of_bytes [] = subst AreBits (sym bits_of_bytes-nil) (All-nil (λ bit. bit < 2))
AreBits-bits_of_bytes (x ∷ xs) =
    subst AreBits (sym (bits_of_bytes-cons x xs)) (All-append (λ bit. bit < 2) (bits_of 8 x) (bits_of_bytes xs) (AreBits-bits_of 8 x) (AreBits-bits_of_bytes xs))

-- the number that bits spell has these bits
record Spells (bits : List ℕ) : Type 0 where
  below : number_of bits < 2 ^ length bits
  same : bits_of (length bits) (number_of bits) ≡ bits

spells : (bits : List ℕ) → AreBits bits → Spells bits
unfolding number_of bits_of
spells [] h = record { below = omega arith; same = refl }
spells (bit ∷ bits) h =
    let rest = spells bits (All-tail (λ bit. bit < 2) bit bits h) in
    let one : bit < 2 = All-head (λ bit. bit < 2) bit bits h in
    record {
      below = omega (arith, mul-add-lt bit (2 ^ length bits) (number_of bits) 2 one rest.below, pow-suc 2 (length bits));
      same = ap₂ (λ (b : ℕ) (bs : List ℕ). b ∷ bs)
          (ap (λ n. n % 2) (shr_high bit (length bits) (number_of bits) rest.below) ∙ mod-eq_of_lt one)
          (bits_of-low (length bits) bit (number_of bits) ∙ rest.same);
    }

-- bits that are read as a signed number are its bits
pub signed_bits_of-signed_number_of : (bits : List ℕ) → AreBits bits → signed_bits_of (length bits) (signed_number_of bits) ≡ bits
unfolding bits_of number_of signed_number_of signed_bits_of
signed_bits_of-signed_number_of [] h = refl
signed_bits_of-signed_number_of (zero ∷ bits) h =
    let low = length bits in
    let number = number_of bits in
    let value : pos number -ℤ pos (0 * 2 ^ low) ≡ pos number = omega (arith, ints) in
    let same : number ≡ 0 * 2 ^ low + number = omega arith in
    ap (signed_bits_of (suc low)) value ∙ ap (bits_of (suc low)) same ∙ Spells.same (spells (0 ∷ bits) h)
signed_bits_of-signed_number_of (suc zero ∷ bits) h =
    let low = length bits in
    let number = number_of bits in
    let below = Spells.below (spells bits (All-tail (λ bit. bit < 2) 1 bits h)) in
    let value : pos number -ℤ pos (1 * 2 ^ low) ≡ negsuc (2 ^ low - suc number) = omega (arith, ints) in
    let same : 2 ^ suc low - suc (2 ^ low - suc number) ≡ 1 * 2 ^ low + number = omega (arith, pow-suc 2 low) in
    ap (signed_bits_of (suc low)) value ∙ ap (bits_of (suc low)) same ∙ Spells.same (spells (1 ∷ bits) h)
signed_bits_of-signed_number_of (suc (suc bit) ∷ bits) h =
    let one : suc (suc bit) < 2 = All-head (λ b. b < 2) (suc (suc bit)) bits h in
    absurd (omega arith)

-- ---- samples

-- a sample's bits are those that it was read from
pub bits_of_sample-sample_of : (w : ℕ) (bits : List ℕ) → AreBits bits → 2 * w ≤ length bits → bits_of_sample w (sample_of w bits) ≡ take (2 * w) bits
bits_of_sample-sample_of w bits h l =
    let front : length (take w bits) ≡ w = length-take-le w bits (omega arith) in
    let back : length (take w (drop w bits)) ≡ w = length-take-le w (drop w bits) (omega (arith, length-drop w bits)) in
    let first : signed_bits_of w (signed_number_of (take w bits)) ≡ take w bits =
    ap (λ n. signed_bits_of n (signed_number_of (take w bits))) (sym front)
    ∙ signed_bits_of-signed_number_of (take w bits) (All-take (λ bit. bit < 2) w bits h) in
    let second : signed_bits_of w (signed_number_of (take w (drop w bits))) ≡ take w (drop w bits) =
    ap (λ n. signed_bits_of n (signed_number_of (take w (drop w bits)))) (sym back)
    ∙ signed_bits_of-signed_number_of (take w (drop w bits)) (All-take (λ bit. bit < 2) w (drop w bits) (All-drop (λ bit. bit < 2) w bits h)) in
    ap₂ (λ (x y : List ℕ). x ++ y) first second
    ∙ sym (take-add w w bits)
    ∙ ap (λ n. take n bits) (sym (double_is w))

-- the bits of samples that were read are the bits that they were read from
pub bits_of_samples-samples_from : (w : ℕ) (bits : List ℕ) (first count : ℕ) → AreBits bits → 2 * w * (first + count) ≤ length bits → bits_of_samples w (samples_from w bits first count) ≡ take (2 * w * count) (drop (2 * w * first) bits)
bits_of_samples-samples_from w bits first zero h l =
    let none : 2 * w * 0 ≡ 0 = omega arith in
    sym (ap (λ n. take n (drop (2 * w * first) bits)) none)
bits_of_samples-samples_from w bits first (suc count) h l =
    let size = 2 * w in
    let here = drop (size * first) bits in
    let next : size * (first + 1) ≡ size * first + size = omega arith in
    let all : size * suc count ≡ size + size * count = omega arith in
    let room : size * (first + 1 + count) ≤ length bits = omega arith in
    let there : size ≤ length here = omega (arith, length-drop (size * first) bits) in
    ap₂ (λ (x y : List ℕ). x ++ y)
    (bits_of_sample-sample_of w here (All-drop (λ bit. bit < 2) (size * first) bits h) there)
    (bits_of_samples-samples_from w bits (first + 1) count h room
    ∙ ap (λ n. take (size * count) (drop n bits)) next
    ∙ ap (take (size * count)) (sym (drop-drop size (size * first) bits)))
    ∙ sym (take-add size (size * count) here)
    ∙ ap (λ n. take n here) (sym all)

-- a sample is read back from its bits
pub sample_of-bits_of_sample : (w : ℕ) (sample : Sample) (behind : List ℕ) → 1 ≤ w → SampleFits w sample → sample_of w (bits_of_sample w sample ++ behind) ≡ sample
sample_of-bits_of_sample w sample behind h f =
    let i = signed_bits_of w sample.i in
    let q = signed_bits_of w sample.q in
    let first : take w ((i ++ q) ++ behind) ≡ i =
    ap (take w) (append_assoc i q behind) ∙ take_at i (q ++ behind) w (length-signed_bits_of w sample.i) in
    let second : take w (drop w ((i ++ q) ++ behind)) ≡ q =
    ap (λ bs. take w (drop w bs)) (append_assoc i q behind)
    ∙ ap (take w) (drop_at i (q ++ behind) w (length-signed_bits_of w sample.i))
    ∙ take_at q behind w (length-signed_bits_of w sample.q) in
    let made : ℤ → ℤ → Sample = λ x y. record { i = x; q = y } in
    ap₂ made
    (ap signed_number_of first ∙ signed_number_of-signed_bits_of w sample.i h f.i)
    (ap signed_number_of second ∙ signed_number_of-signed_bits_of w sample.q h f.q)

-- samples are read back from their bits, whatever stands before and behind these
samples_behind : (w : ℕ) (before : List ℕ) (samples : List Sample) (behind : List ℕ) (first : ℕ) → 1 ≤ w → All (SampleFits w) samples → length before ≡ 2 * w * first → samples_from w (before ++ (bits_of_samples w samples ++ behind)) first (length samples) ≡ samples
samples_behind w before [] behind first h f l = refl
samples_behind w before (sample ∷ samples) behind first h f l =
    let here = bits_of_sample w sample in
    let rest = bits_of_samples w samples in
    let size : length here ≡ 2 * w =
    length-append (signed_bits_of w sample.i) (signed_bits_of w sample.q)
    ∙ ap₂ (λ (a b : ℕ). a + b) (length-signed_bits_of w sample.i) (length-signed_bits_of w sample.q) ∙ sym (double_is w) in
    let further : length (before ++ here) ≡ 2 * w * (first + 1) = omega (arith, length-append before here) in
    let joined : before ++ ((here ++ rest) ++ behind) ≡ (before ++ here) ++ (rest ++ behind) =
    ap (λ bs. before ++ bs) (append_assoc here rest behind) ∙ sym (append_assoc before here (rest ++ behind)) in
    ap₂ (λ (x : Sample) (xs : List Sample). x ∷ xs)
    (ap (sample_of w) (drop_at before ((here ++ rest) ++ behind) (2 * w * first) l ∙ append_assoc here rest behind)
    ∙ sample_of-bits_of_sample w sample (rest ++ behind) h (All-head (SampleFits w) sample samples f))
    (ap (λ bs. samples_from w bs (first + 1) (length samples)) joined
    ∙ samples_behind w (before ++ here) samples behind (first + 1) h (All-tail (SampleFits w) sample samples f) further)

-- samples are read back from what was packed
pub read_back : (w : ℕ) (samples : List Sample) (packed behind : List ℕ) → 1 ≤ w → All (SampleFits w) samples → packed ≡ bits_of_samples w samples ++ behind → samples_from w packed 0 (length samples) ≡ samples
read_back w samples packed behind h f e =
    ap (λ bs. samples_from w bs 0 (length samples)) e ∙ samples_behind w [] samples behind 0 h f (omega arith)

-- the bits of samples that were read
pub bits_kept : (w : ℕ) (payload : List ℕ) (first count : ℕ) → LieWithin w first count (length payload) → bits_of_samples w (samples_from w (bits_of_bytes payload) first count) ≡ bits_from w (bits_of_bytes payload) first count
bits_kept w payload first zero l =
    let none : 2 * w * 0 ≡ 0 = omega arith in
    sym (ap (λ n. take n (drop (2 * w * first) (bits_of_bytes payload))) none)
bits_kept w payload first (suc count) l =
    let room : 2 * w * (first + suc count) ≤ length (bits_of_bytes payload) = omega (arith, length-bits_of_bytes payload, l (omega arith)) in
    bits_of_samples-samples_from w (bits_of_bytes payload) first (suc count) (AreBits-bits_of_bytes payload) room

again_where : (w : ℕ) (samples : List Sample) (packed behind payload : List ℕ) (first : ℕ) → packed ≡ bits_of_samples w samples ++ behind → 2 * w * (first + length samples) ≤ 8 * length payload → samples ≡ samples_from w (bits_of_bytes payload) first (length samples) → take (2 * w * length samples) packed ≡ bits_from w (bits_of_bytes payload) first (length samples)
again_where w samples packed behind payload first e l s =
    let bits = bits_of_bytes payload in
    let used = 2 * w * length samples in
    let same : bits_of_samples w samples ≡ take used (drop (2 * w * first) bits) =
    ap (bits_of_samples w) s
    ∙ bits_of_samples-samples_from w bits first (length samples) (AreBits-bits_of_bytes payload) (omega (arith, length-bits_of_bytes payload)) in
    let size : length (bits_of_samples w samples) ≡ used =
    ap length same ∙ length-take-le used (drop (2 * w * first) bits) (omega (arith, length-drop (2 * w * first) bits, length-bits_of_bytes payload)) in
    ap (take used) e ∙ take_at (bits_of_samples w samples) behind used size ∙ same

from_start : (w count : ℕ) (bits : List ℕ) → bits_from w bits 0 count ≡ take (2 * w * count) bits
from_start w count bits =
    let start : 2 * w * 0 ≡ 0 = omega arith in
    ap (λ n. take (2 * w * count) (drop n bits)) start

none_from : (w first : ℕ) (bits : List ℕ) → bits_from w bits first 0 ≡ []
none_from w first bits =
    let none : 2 * w * 0 ≡ 0 = omega arith in
    ap (λ n. take n (drop (2 * w * first) bits)) none

-- samples that were read are packed to the bits that they were read from
pub packed_again : (w : ℕ) (samples : List Sample) (packed behind payload : List ℕ) (first : ℕ) → packed ≡ bits_of_samples w samples ++ behind → LieWithin w first (length samples) (length payload) → samples ≡ samples_from w (bits_of_bytes payload) first (length samples) → bits_from w packed 0 (length samples) ≡ bits_from w (bits_of_bytes payload) first (length samples)
packed_again w [] packed behind payload first e l s = none_from w 0 packed ∙ sym (none_from w first (bits_of_bytes payload))
packed_again w (sample ∷ samples) packed behind payload first e l s =
    from_start w (length (sample ∷ samples)) packed
    ∙ again_where w (sample ∷ samples) packed behind payload first e (l (omega arith)) s

-- ---- range

-- a number that bits spell in two's complement has so many bits
pub FitsBits-signed_number_of : (bits : List ℕ) → AreBits bits → 1 ≤ length bits → FitsBits (length bits) (signed_number_of bits)
unfolding number_of signed_number_of
FitsBits-signed_number_of [] h l = absurd (omega arith)
FitsBits-signed_number_of (bit ∷ bits) h l =
    let low = length bits in
    let below = Spells.below (spells bits (All-tail (λ b. b < 2) bit bits h)) in
    let one : bit < 2 = All-head (λ b. b < 2) bit bits h in
    let worth : bit * 2 ^ low ≤ 1 * 2 ^ low = mul-le-mul_right (2 ^ low) (omega arith) in
    let places : suc low - 1 ≡ low = omega arith in
    let limit : 2 ^ (suc low - 1) ≡ 2 ^ low = ap (λ e. 2 ^ e) places in
    (omega (arith, ints), omega (arith, ints))

-- a sample that is read from enough bits fits
pub SampleFits-sample_of : (w : ℕ) (bits : List ℕ) → 1 ≤ w → AreBits bits → 2 * w ≤ length bits → SampleFits w (sample_of w bits)
SampleFits-sample_of w bits s h l =
    let front : length (take w bits) ≡ w = length-take-le w bits (omega arith) in
    let back : length (take w (drop w bits)) ≡ w = length-take-le w (drop w bits) (omega (arith, length-drop w bits)) in
    record {
      i =
          subst (λ n. FitsBits n (signed_number_of (take w bits))) front
          (FitsBits-signed_number_of (take w bits) (All-take (λ bit. bit < 2) w bits h) (omega arith));
      q =
          subst (λ n. FitsBits n (signed_number_of (take w (drop w bits)))) back
          (FitsBits-signed_number_of (take w (drop w bits)) (All-take (λ bit. bit < 2) w (drop w bits) (All-drop (λ bit. bit < 2) w bits h)) (omega arith));
    }

-- samples that are read from enough bits fit
pub All_fit-samples_from : (w : ℕ) (bits : List ℕ) (first count : ℕ) → 1 ≤ w → AreBits bits → 2 * w * (first + count) ≤ length bits → All (SampleFits w) (samples_from w bits first count)
All_fit-samples_from w bits first zero s h l = All-nil (SampleFits w)
All_fit-samples_from w bits first (suc count) s h l =
    let size = 2 * w in
    let here = drop (size * first) bits in
    let room : size * (first + 1 + count) ≤ length bits = omega arith in
    let there : size ≤ length here = omega (arith, length-drop (size * first) bits) in
    All-cons (SampleFits w) (sample_of w here) (samples_from w bits (first + 1) count)
    (SampleFits-sample_of w here s (All-drop (λ bit. bit < 2) (size * first) bits h) there)
    (All_fit-samples_from w bits (first + 1) count s h room)

-- the samples of a payload fit
pub samples_fit : (w : ℕ) (payload : List ℕ) (first count : ℕ) → 1 ≤ w → LieWithin w first count (length payload) → All (SampleFits w) (samples_from w (bits_of_bytes payload) first count)
samples_fit w payload first zero s l = All-nil (SampleFits w)
samples_fit w payload first (suc count) s l =
    let room : 2 * w * (first + suc count) ≤ length (bits_of_bytes payload) = omega (arith, length-bits_of_bytes payload, l (omega arith)) in
    All_fit-samples_from w (bits_of_bytes payload) first (suc count) s (AreBits-bits_of_bytes payload) room
