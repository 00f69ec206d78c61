use Rattle.std.proofs.Common.{◌∙◌, take, arith}
use Rattle.vrt_words.specs.Words.{words_of}
use Rattle.release_form.proofs.Written.{next_count}
use Rattle.release_form.proofs.front.put_counts.Goals as goal

pub loop-index-preserved : goal.loop-index-preserved
loop-index-preserved c =
    let now = c.loop-index in
    let next = c.put_next in
    record {
      words = next_count (words_of (take 8 c.args.into.now)) now.index c.high.result c.low.result c.args.counts.now now.into next.new.into (omega arith) c.high.ensures c.low.ensures
          now.invariant.words next.ensures.words;
      behind = next.ensures.behind 64 (omega arith) ∙ now.invariant.behind;
    }
