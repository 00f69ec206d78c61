use Rattle.std.proofs.Common.{◌≡◌, ◌++◌, ◌/◌, ℕ, List, length, ap, ◌∙◌, codes, arith}
use Rattle.std.specs.Fmt.{decimal}
use Rattle.vrt_words.specs.Words.{words_of}
use Rattle.vrt_words.proofs.WordLaws.{length-words_of}
use Rattle.difi_texts.specs.Prologue.{indented, common}
use Rattle.difi_texts.proofs.Texts.{three_behind}
use Rattle.difi_texts.proofs.details.push_data.Goals as goal

words_told : (bytes : List ℕ) → length bytes / 4 ≡ length (words_of bytes)
words_told bytes = let e = length-words_of bytes in omega (arith, e.0, e.1)

pub returns-clause-text : goal.returns-clause-text
returns-clause-text c =
    let rec = c.args.rec.now in
    three_behind c.args.out.now c.push_common.new.out c.push_number.new.out _ (common rec.prologue) (indented (codes "pad " ++ decimal rec.prologue.pad))
    (indented (codes "payload words " ++ decimal (length (words_of rec.payload.now))))
    c.push_common.ensures.text
    (c.push_number.ensures.text ∙ ap (λ n. c.push_common.new.out ++ indented (codes "pad " ++ decimal n)) c.from.ensures)
    (c.push_number-2.ensures.text ∙ ap (λ n. c.push_number.new.out ++ indented (codes "payload words " ++ decimal n)) (words_told rec.payload.now))
