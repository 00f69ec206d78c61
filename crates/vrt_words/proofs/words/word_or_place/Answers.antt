-- Where the word is missing, the whole words are those of the bytes there.
use Rattle.std.proofs.Common.{◌*◌, ◌+◌, ◌<◌, length, inl, inr, arith}
use Rattle.std.proofs.lemmas.Bool.{cases_lt, false≢true}
use Rattle.vrt_words.proofs.WordLaws.{length-words_of}
use Rattle.vrt_words.proofs.words.word_or_place.Goals as goal

pub returns-in-None-clause-missing : goal.returns-in-None-clause-missing
returns-in-None-clause-missing c =
    let there = length-words_of c.args.bytes.now in
    let short : length c.args.bytes.now < 4 * c.args.index + 4 =
    elim (cases_lt (length c.args.bytes.now) (4 * c.args.index + 4)) [ inl less ↦ less | inr there ↦ absurd (false≢true (c.in-None.ensures.there.1 there)) ] in
    (omega (arith, there.0, there.1), omega (arith, there.0, short))
