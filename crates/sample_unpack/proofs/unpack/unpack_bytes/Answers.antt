use Rattle.std.proofs.Common.{◌≡◌, ◌+◌, ◌*◌, ◌∙◌, ap, drop, arith}
use Rattle.sample_unpack.specs.Bits.{bits_of_bytes}
use Rattle.sample_unpack.specs.Samples.{sample_of}
use Rattle.sample_unpack.proofs.Samples.{samples_more}
use Rattle.sample_unpack.proofs.unpack.unpack_bytes.Goals as goal

pub loop-index-preserved : goal.loop-index-preserved
loop-index-preserved c =
    let bits = bits_of_bytes c.args.payload.now in
    let number = c.args.first + c.loop-index.index in
    let place : 8 * (2 * number) ≡ 2 * 8 * number = omega arith in
    samples_more 8 bits c.args.first c.loop-index.index c.loop-index.into c.sample_of_half.result (omega arith) c.loop-index.invariant
    (c.sample_of_half.ensures ∙ ap (λ n. sample_of 8 (drop n bits)) place)
