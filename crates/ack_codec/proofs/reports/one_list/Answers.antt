-- The mask announces all the words behind it.
use Rattle.std.proofs.Common.{◌∷◌, sym, ap, ◌∙◌, arith}
use Rattle.vrt_words.specs.Words.{words_of}
use Rattle.vrt_words.proofs.WordLaws.{length-words_of}
use Rattle.vrt_fields.specs.FieldSet.{number_in_mask}
use Rattle.ack_codec.specs.Responses.{listed_words}
use Rattle.ack_codec.proofs.CutLemmas.{cut_mask, cut_one, whole_one}
use Rattle.ack_codec.proofs.reports.one_list.Goals as goal

pub returns-in_default-clause-refused : goal.returns-in_default-clause-refused
returns-in_default-clause-refused c =
    cut_mask c.args.at c.args.size c.args.bytes.now c.requires.there (omega arith) number_in_mask c.requires.left
    (λ mask is e. c.in_default.ensures.none mask is (omega (arith, c.from.ensures)) (omega (arith, c.from.ensures)))

pub read_responses-requires-clause-there : goal.read_responses-requires-clause-there
read_responses-requires-clause-there c =
    omega (arith, length-words_of c.args.bytes.now, c.in-Some.ensures.found.1, c.in-Some.ensures.found.2, c.from.ensures, c.in-Ok.ensures.right)

pub returns-in-Ok-clause-found : goal.returns-in-Ok-clause-found
returns-in-Ok-clause-found c =
    let found = c.in-Some.ensures.found in
    let read = c.read_responses.ensures in
    let words = words_of c.args.bytes.now in
    let whole = whole_one words (listed_words c.read_responses.result) c.args.at c.in-Some.mask (number_in_mask c.in-Some.mask) found.0
    (omega (arith, length-words_of c.args.bytes.now, found.1, found.2, c.from.ensures, c.in-Ok.ensures.right)) read.listed in
    (read.responses, whole ∙ ap (λ m. m ∷ listed_words c.read_responses.result) (sym read.mask), c.in-Ok.ensures.right)

pub returns-in-Err-clause-refused : goal.returns-in-Err-clause-refused
returns-in-Err-clause-refused c =
    let found = c.in-Some.ensures.found in
    cut_one c.args.at c.args.size c.args.bytes.now c.requires.there (omega arith) number_in_mask c.in-Some.mask c.in-Err.place.word found.0
    (omega (arith, found.1, found.2, c.from.ensures)) c.in-Err.ensures.other
