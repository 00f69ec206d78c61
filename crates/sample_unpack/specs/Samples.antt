-- The samples that stand in a list of bits, and the bits that samples have.
use Rattle.std.specs.Prelude.{ℕ, ◌+◌, ◌*◌, ◌/◌, ◌<◌, ◌≤◌, List, ◌++◌, map, take, drop, flat_map}
use Rattle.std.specs.List.{range_with_len}
use Rattle.sample_unpack.specs.Bits.{signed_number_of, signed_bits_of, FitsBits}
use Rattle.sample_unpack.specs.declared.sample.Sample.{Sample}

-- the sample that bits begin with: its first item is I, the next is Q
abbrev pub sample_of : ℕ → List ℕ → Sample
sample_of width bits = record { i = signed_number_of (take width bits); q = signed_number_of (take width (drop width bits)) }

-- the sample with this number, counted from 0
abbrev pub sample_at : ℕ → List ℕ → ℕ → Sample
sample_at width bits number = sample_of width (drop (2 * width * number) bits)

-- so many samples, from number `first` on
abbrev pub samples_from : ℕ → List ℕ → ℕ → ℕ → List Sample
samples_from width bits first count = map (sample_at width bits) (range_with_len first count)

-- the bits in which so many samples stand, from number `first` on
abbrev pub bits_from : ℕ → List ℕ → ℕ → ℕ → List ℕ
bits_from width bits first count = take (2 * width * count) (drop (2 * width * first) bits)

-- the bits of a sample: those of I, and then those of Q
abbrev pub bits_of_sample : ℕ → Sample → List ℕ
bits_of_sample width sample = signed_bits_of width sample.i ++ signed_bits_of width sample.q

-- the bits of samples, one after another
abbrev pub bits_of_samples : ℕ → List Sample → List ℕ
bits_of_samples width samples = flat_map (bits_of_sample width) samples

-- both numbers have `width` bits
pub record SampleFits (width : ℕ) (sample : Sample) : Type 0 where
  pub i : FitsBits width sample.i
  pub q : FitsBits width sample.q

-- the samples first, first + 1 and so on, of which there are `count`, lie within so many bytes
abbrev pub LieWithin : ℕ → ℕ → ℕ → ℕ → Type 0
LieWithin width first count bytes = 0 < count → 2 * width * (first + count) ≤ 8 * bytes

-- the 32-bit words that so many samples take
abbrev pub words_for : ℕ → ℕ → ℕ
words_for width count = (2 * width * count + 31) / 32
