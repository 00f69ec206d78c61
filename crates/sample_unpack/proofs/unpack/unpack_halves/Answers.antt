use Rattle.std.proofs.Common.{◌≡◌, ◌+◌, ◌*◌, ◌∙◌, ap, drop, arith}
use Rattle.sample_unpack.specs.Bits.{bits_of_bytes}
use Rattle.sample_unpack.specs.Samples.{sample_of}
use Rattle.sample_unpack.proofs.Samples.{samples_more}
use Rattle.sample_unpack.proofs.unpack.unpack_halves.Goals as goal

pub loop-index-preserved : goal.loop-index-preserved
loop-index-preserved c =
    let bits = bits_of_bytes c.args.payload.now in
    let number = c.args.first + c.loop-index.index in
    let place : 8 * (4 * number) ≡ 2 * 16 * number = omega arith in
    samples_more 16 bits c.args.first c.loop-index.index c.loop-index.into c.sample_of_word.result (omega arith) c.loop-index.invariant
    (c.sample_of_word.ensures ∙ ap (λ n. sample_of 16 (drop n bits)) place)
