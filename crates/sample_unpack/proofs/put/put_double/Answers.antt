use Rattle.std.proofs.Common.{◌++◌, ◌∙◌, ap, ◌+◌, ◌-◌, take, drop, length, arith}
use borrow.Rule.Slice.PartMut.{put_mid, post_of}
use Rattle.sample_unpack.specs.Bits.{bits_of_bytes}
use Rattle.sample_unpack.proofs.Packed.{written}
use Rattle.sample_unpack.proofs.put.put_double.Goals as goal

pub returns : goal.returns
returns c =
    let at = c.args.at in
    let into = c.args.into.now in
    let rest = length into - at in
    ap (λ part. bits_of_bytes (take (at + 8) (put_mid at rest into part))) c.write_u64.ensures
    ∙ written 8 at c.args.double into (drop 8 (take rest (drop at into)) ++ post_of at rest into) (omega arith)
