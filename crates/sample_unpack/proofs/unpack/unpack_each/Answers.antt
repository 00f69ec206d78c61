use Rattle.std.proofs.Common.{◌+◌, ◌*◌, ◌∙◌, drop, arith}
use Rattle.sample_unpack.specs.Bits.{bits_of_bytes}
use Rattle.sample_unpack.proofs.Samples.{samples_more, sample_behind}
use Rattle.sample_unpack.proofs.unpack.unpack_each.Goals as goal

pub loop-sample-preserved : goal.loop-sample-preserved
loop-sample-preserved c =
    let bits = bits_of_bytes c.args.payload.now in
    let start = 8 * c.args.at + c.args.offset in
    let width = c.args.width in
    let now = c.loop-sample in
    record {
      place = omega arith;
      in_byte = omega arith;
      done =
          samples_more width (drop start bits) 0 now.sample-index now.into c.sample_at.result (omega arith) now.invariant.done
          (c.sample_at.ensures ∙ sample_behind width bits start (0 + now.sample-index) (8 * now.at + now.offset) (omega arith));
    }
