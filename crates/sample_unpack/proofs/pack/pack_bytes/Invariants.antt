use Rattle.std.proofs.Common.{◌≡◌, ◌*◌, take}
use Rattle.sample_unpack.specs.Bits.{bits_of_bytes}
use Rattle.sample_unpack.specs.Samples.{bits_of_samples}
use Rattle.sample_unpack.proofs.pack.pack_bytes.Given as goal

abbrev pub invariant-loop-index : goal.invariant-loop-index
invariant-loop-index l = bits_of_bytes (take (2 * l.index) l.into) ≡ bits_of_samples 8 (take l.index l.samples)
