-- The words replace those in their places.
use Rattle.std.proofs.Common.{◌+◌, ◌*◌, ◌∙◌, ap, drop, length, arith}
use Rattle.vrt_words.specs.Words.{words_of}
use Rattle.vrt_words.proofs.RowLemmas.{row-is, words_of-row, behind-row}
use Rattle.vrt_words.proofs.words.put_words.Goals as goal

pub returns-clause-words : goal.returns-clause-words
returns-clause-words c =
    let a = c.args in
    ap words_of (row-is a.bytes.now c.write_u32_into.new.dst a.words.now a.index _ c.write_u32_into.ensures)
    ∙ words_of-row a.bytes.now a.words.now a.index _ (λ i. omega (arith, c.type_inv.words i)) c.requires (omega arith)

pub returns-clause-behind : goal.returns-clause-behind
returns-clause-behind c =
    let a = c.args in
    ap (drop (4 * (a.index + length a.words.now))) (row-is a.bytes.now c.write_u32_into.new.dst a.words.now a.index _ c.write_u32_into.ensures)
    ∙ behind-row a.bytes.now a.words.now a.index _ c.requires (omega arith)
