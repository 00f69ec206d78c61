use Rattle.std.proofs.Common.{◌≡◌, ◌+◌, ◌*◌, ◌<◌, take}
use Rattle.sample_unpack.specs.Bits.{bits_of_bytes}
use Rattle.sample_unpack.proofs.Widening.{wide}
use Rattle.sample_unpack.proofs.widen.widen_each.Given as goal

abbrev pub invariant-loop-index : goal.invariant-loop-index
invariant-loop-index l =
    record {
      place : 8 * l.at + l.offset ≡ 8 * l.fn.at + l.fn.offset + 2 * l.width * l.index;
      in_byte : l.offset < 8;
      done : bits_of_bytes (take (4 * l.index) l.into) ≡ wide l.width (bits_of_bytes l.payload) (8 * l.fn.at + l.fn.offset) l.index;
    }
