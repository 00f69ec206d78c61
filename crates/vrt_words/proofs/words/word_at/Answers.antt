-- The word that is read is the list's, and there is none where the list is shorter.
use Rattle.std.proofs.Common.{◌∙◌, sym, ap, Some, arith}
use Rattle.vrt_words.proofs.WordLemmas.{word_at-there, word_at-missing}
use Rattle.vrt_words.proofs.words.word_at.Goals as goal

pub returns-then-index-bytes-clause-word : goal.returns-then-index-bytes-clause-word
returns-then-index-bytes-clause-word c = sym (word_at-missing c.args.bytes.now c.args.index (omega arith))

pub returns-clause-word : goal.returns-clause-word
returns-clause-word c = ap Some c.word_in.ensures ∙ word_at-there c.args.bytes.now c.args.index (omega arith)
