use Rattle.std.proofs.Common.{ℕ, List, ◌++◌, ap₂, arith}
use Rattle.sample_unpack.proofs.Bits.{bits_of_bytes-nil, bits_of_none}
use Rattle.sample_unpack.proofs.pack.pack_items.Goals as goal

pub loop-sample-init : goal.loop-sample-init
loop-sample-init c = record {
  place = omega arith;
  short = omega arith;
  fits = omega arith;
  done = ap₂ (λ (x y : List ℕ). x ++ y) bits_of_bytes-nil (bits_of_none 0);
}
