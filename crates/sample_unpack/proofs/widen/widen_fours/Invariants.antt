use Rattle.std.proofs.Common.{◌≡◌, ◌*◌, take}
use Rattle.sample_unpack.specs.Bits.{bits_of_bytes}
use Rattle.sample_unpack.proofs.Widening.{wide}
use Rattle.sample_unpack.proofs.widen.widen_fours.Given as goal

abbrev pub invariant-loop-index : goal.invariant-loop-index
invariant-loop-index l = bits_of_bytes (take (16 * l.index) l.into) ≡ wide l.width (bits_of_bytes l.payload) (8 * l.start) (4 * l.index)
