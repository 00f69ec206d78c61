-- The masks announce all the words behind them, and the first leaves words that some second mask announces.
use Rattle.std.proofs.Common.{◌≡◌, ◌+◌, ◌∷◌, ◌++◌, take, drop, sym, ap, ◌∙◌, arith}
use Rattle.vrt_words.specs.Words.{words_of}
use Rattle.vrt_words.proofs.WordLaws.{length-words_of}
use Rattle.vrt_fields.specs.FieldSet.{number_in_mask}
use Rattle.ack_codec.specs.Responses.{listed_words}
use Rattle.ack_codec.proofs.CutLemmas.{cut_first, cut_second, cut_two, whole_two}
use Rattle.ack_codec.proofs.reports.both_lists.Goals as goal

pub returns-in_default-clause-refused : goal.returns-in_default-clause-refused
returns-in_default-clause-refused c =
    cut_first c.args.at c.args.size c.args.bytes.now c.requires.there (omega arith) (omega arith)
    (λ mask is least most. c.in_default.ensures.none mask is (omega (arith, c.from.ensures, c.saturating_sub.ensures)) (omega (arith, c.from.ensures)))

pub returns-in_default-listing_at-clause-refused : goal.returns-in_default-listing_at-clause-refused
returns-in_default-listing_at-clause-refused c =
    let found = c.in-Some.ensures.found in
    cut_second c.args.at c.args.size c.args.bytes.now c.requires.there (omega arith) c.in-Some.first found.0 (omega (arith, found.2, c.from.ensures))
    (omega (arith, found.1, c.from.ensures, c.saturating_sub.ensures))
    (λ mask is e.
    c.in_default-listing_at.ensures.none mask is (omega (arith, c.from.ensures, c.mask_number.ensures.number)) (omega (arith, c.from.ensures, c.mask_number.ensures.number)))

pub read_responses-requires-clause-there : goal.read_responses-requires-clause-there
read_responses-requires-clause-there c =
    let first = c.in-Some.ensures.found in
    omega (arith, length-words_of c.args.bytes.now, first.2, c.from.ensures, c.in-Ok.ensures.right)

pub read_responses-requires-in-Ok-clause-there : goal.read_responses-requires-in-Ok-clause-there
read_responses-requires-in-Ok-clause-there c =
    let first = c.in-Some.ensures.found in
    let second = c.in-Some-listing_at.ensures.found in
    omega (arith, length-words_of c.args.bytes.now, first.2, second.1, second.2, c.from.ensures, c.in-Ok.ensures.right, c.mask_number.ensures.number, c.mask_number-in-Ok.ensures.number)

pub returns-in-Ok-clause-found : goal.returns-in-Ok-clause-found
returns-in-Ok-clause-found c =
    let first = c.in-Some.ensures.found in
    let second = c.in-Some-listing_at.ensures.found in
    let a = c.read_responses.ensures in
    let b = c.read_responses-in-Ok.ensures in
    let x = listed_words c.read_responses.result in
    let y = listed_words c.read_responses-in-Ok.result in
    let words = words_of c.args.bytes.now in
    let n = number_in_mask c.in-Some-listing_at.second in
    let later : y ≡ take n (drop (c.args.at + 2 + number_in_mask c.in-Some.first) words) =
    b.listed ∙ ap (λ i. take n (drop (c.args.at + 2 + i) words)) c.mask_number-in-Ok.ensures.number in
    let whole = whole_two words x y c.args.at c.in-Some.first c.in-Some-listing_at.second (number_in_mask c.in-Some.first) n first.0 second.0
    (omega (arith, length-words_of c.args.bytes.now, first.2, second.1, second.2, c.from.ensures, c.in-Ok.ensures.right, c.mask_number.ensures.number)) a.listed later in (
      a.responses,
      b.responses,
      whole ∙ ap (λ m. m ∷ c.in-Some-listing_at.second ∷ (x ++ y)) (sym a.mask) ∙ ap (λ m. c.read_responses.result.cif0 ∷ m ∷ (x ++ y)) (sym b.mask),
      c.in-Ok.ensures.right,
    )

pub returns-in-Err-clause-refused : goal.returns-in-Err-clause-refused
returns-in-Err-clause-refused c =
    let first = c.in-Some.ensures.found in
    let second = c.in-Some-listing_at.ensures.found in
    cut_two c.args.at c.args.size c.args.bytes.now c.requires.there (omega arith) c.in-Some.first c.in-Some-listing_at.second c.in-Err.place.word first.0 second.0
    (omega (arith, first.2, second.1, second.2, c.from.ensures, c.mask_number.ensures.number)) c.in-Err.ensures.other
