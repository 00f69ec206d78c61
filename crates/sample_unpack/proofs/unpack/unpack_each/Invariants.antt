use Rattle.std.proofs.Common.{◌≡◌, ◌+◌, ◌*◌, ◌<◌, take, drop}
use Rattle.sample_unpack.specs.Bits.{bits_of_bytes}
use Rattle.sample_unpack.specs.Samples.{samples_from}
use Rattle.sample_unpack.proofs.unpack.unpack_each.Given as goal

abbrev pub invariant-loop-sample : goal.invariant-loop-sample
invariant-loop-sample l =
    record {
      place : 8 * l.at + l.offset ≡ 8 * l.fn.at + l.fn.offset + 2 * l.width * l.sample-index;
      in_byte : l.offset < 8;
      done : take l.sample-index l.into ≡ samples_from l.width (drop (8 * l.fn.at + l.fn.offset) (bits_of_bytes l.payload)) 0 l.sample-index;
    }
