use Rattle.std.proofs.Common.{◌++◌, ◌∙◌, ap, ◌+◌, ◌-◌, take, drop, length, arith}
use borrow.Rule.Slice.PartMut.{put_mid, post_of}
use Rattle.sample_unpack.specs.Bits.{bits_of_bytes}
use Rattle.sample_unpack.proofs.Packed.{written}
use Rattle.sample_unpack.proofs.put.put_word.Goals as goal

pub returns : goal.returns
returns c =
    let at = c.args.at in
    let into = c.args.into.now in
    let rest = length into - at in
    ap (λ part. bits_of_bytes (take (at + 4) (put_mid at rest into part))) c.write_u32.ensures
    ∙ written 4 at c.args.word into (drop 4 (take rest (drop at into)) ++ post_of at rest into) (omega arith)
