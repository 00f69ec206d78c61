-- CIF0 announces all the words behind it.
use Rattle.std.proofs.Common.{◌∷◌, sym, ap, ◌∙◌, arith}
use Rattle.vrt_words.specs.Words.{words_of}
use Rattle.vrt_words.proofs.WordLaws.{length-words_of}
use Rattle.vrt_fields.specs.FieldSet.{width_of_mask, words_of_set}
use Rattle.ack_codec.proofs.CutLemmas.{cut_mask, cut_one, whole_one}
use Rattle.ack_codec.proofs.reading.fields_at.Goals as goal

pub returns-in_default-clause-refused : goal.returns-in_default-clause-refused
returns-in_default-clause-refused c =
    cut_mask c.args.at c.args.size c.args.bytes.now c.requires.there (omega arith) width_of_mask c.requires.left
    (λ mask is e. c.in_default.ensures.none mask is (omega (arith, c.from.ensures)))

pub returns-in-Ok-clause-found : goal.returns-in-Ok-clause-found
returns-in-Ok-clause-found c =
    let found = c.in-Some.ensures.found in
    let read = c.read.ensures in
    let words = words_of c.args.bytes.now in
    let whole = whole_one words (words_of_set c.read.result) c.args.at c.in-Some.cif0 (width_of_mask c.in-Some.cif0) found.0
    (omega (arith, length-words_of c.args.bytes.now, found.1, c.from.ensures, c.in-Ok.ensures.right)) read.words in
    (read.«set», whole ∙ ap (λ m. m ∷ words_of_set c.read.result) (sym read.mask), c.in-Ok.ensures.right)

pub returns-in-Err-clause-refused : goal.returns-in-Err-clause-refused
returns-in-Err-clause-refused c =
    let found = c.in-Some.ensures.found in
    cut_one c.args.at c.args.size c.args.bytes.now c.requires.there (omega arith) width_of_mask c.in-Some.cif0 c.in-Err.place.word found.0
    (omega (arith, found.1, c.from.ensures)) c.in-Err.ensures.other
