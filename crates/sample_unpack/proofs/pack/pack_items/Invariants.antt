use Rattle.std.proofs.Common.{◌≡◌, ◌+◌, ◌*◌, ◌^◌, ◌<◌, ◌++◌, take}
use Rattle.sample_unpack.specs.Bits.{bits_of, bits_of_bytes}
use Rattle.sample_unpack.specs.Samples.{bits_of_samples}
use Rattle.sample_unpack.proofs.pack.pack_items.Given as goal

abbrev pub invariant-loop-sample : goal.invariant-loop-sample
invariant-loop-sample l = record {
  place : 32 * l.words + l.held ≡ 2 * l.width * l.sample-index;
  short : l.held < 32;
  fits : l.waiting < 2 ^ l.held;
  done : bits_of_bytes (take (4 * l.words) l.into) ++ bits_of l.held l.waiting ≡ bits_of_samples l.width (take l.sample-index l.samples);
}
