-- CIF0 is written, and its fields behind it.
use Rattle.std.proofs.Common.{◌≡◌, ◌+◌, ◌*◌, ◌++◌, ◌∷◌, [], take, drop, ap, ◌∙◌, arith}
use Rattle.vrt_words.specs.Words.{words_of}
use Rattle.vrt_words.proofs.WordLaws.{length-words_of, same_later}
use Rattle.vrt_fields.specs.FieldSet.{mask_of, words_of_set}
use Rattle.ack_codec.proofs.SpellingLaws.{both_put}
use Rattle.ack_codec.proofs.writing.put_fields.Goals as goal

pub returns-clause-words : goal.returns-clause-words
returns-clause-words c =
    let at = c.args.at in
    let old = words_of c.args.into.now in
    let mid = words_of c.put_words.new.bytes in
    let end = at + 1 + c.write.result in
    let first : mid ≡ take at old ++ (mask_of c.args.fields.now ∷ [] ++ drop (at + 1) old) =
    c.put_words.ensures.words ∙ ap (λ m. take at old ++ (m ∷ [] ++ drop (at + 1) old)) c.cif0.ensures.number in
    both_put at (at + 1) end old mid (words_of c.write.new.into) (mask_of c.args.fields.now ∷ []) (words_of_set c.args.fields.now)
    (omega (arith, length-words_of c.args.into.now, c.requires)) (omega arith) (omega arith) first c.write.ensures.words

pub returns-clause-behind : goal.returns-clause-behind
returns-clause-behind c =
    c.write.ensures.behind
    ∙ same_later (4 * (c.args.at + 1)) (4 * (c.args.at + 1 + c.write.result)) c.put_words.new.bytes c.args.into.now (omega arith) c.put_words.ensures.behind
