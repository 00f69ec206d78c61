-- The number of whole words, or the size.
use Rattle.std.proofs.Common.{arith}
use Rattle.vrt_words.proofs.WordLaws.{length-words_of}
use Rattle.vrt_words.proofs.length.check_size.Goals as goal

pub returns-clause-other : goal.returns-clause-other
returns-clause-other c =
    let n = length-words_of c.args.bytes.now in
    record { other = λ e. omega arith; place_told = omega arith }
