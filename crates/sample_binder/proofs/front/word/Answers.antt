-- A word of the list has its four bytes.
use Rattle.std.proofs.Common.{arith}
use Rattle.vrt_words.proofs.WordLaws.{length-words_of}
use Rattle.sample_binder.proofs.front.word.Goals as goal

pub word_in-requires : goal.word_in-requires
word_in-requires c = omega (arith, c.requires, length-words_of c.args.bytes.now)
