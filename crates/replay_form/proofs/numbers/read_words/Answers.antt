-- Each word is the number at its place.
use Rattle.std.proofs.Common.{◌≡◌, ◌<◌, ◌*◌, ◌∙◌, length, arith}
use Rattle.replay_form.proofs.NumberLaws.{number_at-between}
use Rattle.replay_form.proofs.numbers.read_words.Goals as goal

pub returns : goal.returns
returns c =
    let same : length c.read_u32_into.new.dst ≡ length c.args.into.now = omega arith in record {
      all = same;
      each = λ i h.
          let k : i < length c.read_u32_into.new.dst = omega arith in
          c.read_u32_into.ensures i k ∙ number_at-between c.args.offset _ (4 * i) 4 c.args.bytes.now (omega arith);
    }
