use Rattle.std.proofs.Common.{◌≡◌, ◌+◌, ◌*◌, ◌++◌, take, drop}
use Rattle.vrt_words.specs.Words.{words_of}
use Rattle.release_form.specs.Front.{count_words}
use Rattle.release_form.proofs.front.put_counts.Given as goal

abbrev pub invariant-loop-index : goal.invariant-loop-index
invariant-loop-index l =
    record {
      words : words_of (take (4 * (2 + 2 * l.index)) l.into) ≡ words_of (take 8 l.fn.into) ++ count_words (take l.index l.counts);
      behind : drop 64 l.into ≡ drop 64 l.fn.into;
    }
