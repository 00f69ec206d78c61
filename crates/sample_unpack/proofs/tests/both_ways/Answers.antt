use Rattle.std.proofs.Common.{ℕ, ◌-◌, ◌≤◌, ◌^◌, ℤ, pos, negsuc, ◌-ℤ◌, to_z, of_z, All, List, [], ◌∷◌, arith}
use Rattle.std.specs.Int.{w16}
use Rattle.std.proofs.Math.Nat.{pow-le-pow_right}
use Rattle.std.proofs.lemmas.Int.{ints}
use Rattle.std.proofs.lemmas.List.Elements.{All-from_recursion}
use Rattle.sample_unpack.specs.Bits.{FitsBits}
use Rattle.sample_unpack.specs.Samples.{SampleFits}
use Rattle.sample_unpack.specs.declared.sample.Sample.{Sample}
use Rattle.sample_unpack.proofs.tests.both_ways.Goals as goal

sample : ℤ → ℤ → Sample
sample i q = record { i = i; q = q }

five : ℤ → ℤ → List Sample
unfolding sample
five most least = sample most least ∷ sample (negsuc 0) (pos 0) ∷ sample least most ∷ sample (pos 1) (negsuc 1) ∷ sample (pos 0) most ∷ []

five_fit : (bits : ℕ) (most least : ℤ) → 8 ≤ 2 ^ (bits - 1) → FitsBits bits most → FitsBits bits least → All (SampleFits bits) (five most least)
unfolding five sample
five_fit bits most least room m l =
    let zero : FitsBits bits (pos 0) = (omega (arith, ints), omega (arith, ints)) in
    let one : FitsBits bits (pos 1) = (omega (arith, ints), omega (arith, ints)) in
    let one_below : FitsBits bits (negsuc 0) = (omega (arith, ints), omega (arith, ints)) in
    let two_below : FitsBits bits (negsuc 1) = (omega (arith, ints), omega (arith, ints)) in
    All-from_recursion (SampleFits bits) (five most least)
    (record { i = m; q = l }, (record { i = one_below; q = zero }, (record { i = l; q = m }, (record { i = one; q = two_below }, (record { i = zero; q = m }, tt)))))

-- each of the numbers has `bits` bits
pub pack_into-requires-clause-fits : goal.pack_into-requires-clause-fits
unfolding five sample
pack_into-requires-clause-fits g c =
    let bits = c.args.bits in
    let least : 2 ^ 3 ≤ 2 ^ (bits - 1) = pow-le-pow_right (omega arith) {i = 3} {j = bits - 1} (omega arith) in
    let most : 2 ^ (bits - 1) ≤ 2 ^ 15 = pow-le-pow_right (omega arith) {i = bits - 1} {j = 15} (omega arith) in
    let greatest = c.requires.most in
    let high = to_z w16 (of_z w16 c.args.most) in
    let low = to_z w16 (of_z w16 (to_z w16 (of_z w16 (pos 0 -ℤ high)) -ℤ pos 1)) in
    five_fit bits high low least (omega (arith, ints), omega (arith, ints)) (omega (arith, ints), omega (arith, ints))
