-- The values of the fields are all words that are left, or there is none.
use Rattle.std.proofs.Common.{◌+◌, take, drop, ap, length-drop, ◌∙◌, arith}
use Rattle.std.proofs.lemmas.List.{take_all, nil_from_length}
use Rattle.vrt_words.specs.Words.{words_of}
use Rattle.vrt_words.proofs.WordLaws.{length-words_of}
use Rattle.vrt_fields.specs.FieldSet.{width_of_mask}
use Rattle.command_prologue.specs.CommandPrologue.{command_words}
use Rattle.command_codec.proofs.control_reading.values_of.Goals as goal

pub read-requires-clause-there : goal.read-requires-clause-there
read-requires-clause-there c = omega (arith, c.requires.followed.values c.if-holds.true, c.requires.size, c.words.ensures.number)

pub returns-then-holds : goal.returns-then-holds
returns-then-holds c =
    let words = words_of c.args.bytes.now in
    let m = command_words c.args.front.now in
    let width = width_of_mask c.args.asked in
    let count = length-words_of c.args.bytes.now in
    let follows = c.requires.followed.values c.if-holds.true in (
      c.read.ensures.set,
      c.read.ensures.mask,
      c.read.ensures.words ∙ ap (λ i. take width (drop (i + 1) words)) c.words.ensures.number
          ∙ take_all width (drop (m + 1) words) (omega (arith, follows, c.requires.size, count, length-drop (m + 1) words)),
    )

pub returns-else-holds : goal.returns-else-holds
returns-else-holds c =
    let words = words_of c.args.bytes.now in
    let m = command_words c.args.front.now in
    let query = c.requires.followed.query c.if-holds.false in
    (query.0, query.1, nil_from_length (drop (m + 1) words) (omega (arith, query.2, c.requires.size, length-words_of c.args.bytes.now, length-drop (m + 1) words)))
