use Rattle.std.proofs.Common.{◌≡◌, ◌+◌, ◌-◌, ◌*◌, ◌≤◌, length, take, drop}
use Rattle.sample_unpack.specs.Bits.{bits_of_bytes}
use Rattle.sample_unpack.specs.Samples.{samples_from}
use Rattle.sample_unpack.proofs.unpack.unpack_fours.Given as goal

abbrev pub invariant-loop-into : goal.invariant-loop-into
invariant-loop-into l =
    record {
      within : l.done ≤ length l.into;
      place : 8 * l.at ≡ 8 * l.start + 2 * l.width * l.done;
      read : take l.done l.into ≡ samples_from l.width (drop (8 * l.start) (bits_of_bytes l.payload)) 0 l.done;
    }

abbrev pub decreases-loop-into : goal.decreases-loop-into
decreases-loop-into l = length l.initial.into - l.done
