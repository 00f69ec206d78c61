use Rattle.std.proofs.Common.{◌≡◌, take}
use Rattle.sample_unpack.specs.Bits.{bits_of_bytes}
use Rattle.sample_unpack.specs.Samples.{samples_from}
use Rattle.sample_unpack.proofs.unpack.unpack_bytes.Given as goal

abbrev pub invariant-loop-index : goal.invariant-loop-index
invariant-loop-index l = take l.index l.into ≡ samples_from 8 (bits_of_bytes l.payload) l.first l.index
