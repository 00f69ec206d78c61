-- The numbers read are the words.
use Rattle.std.proofs.Common.{◌+◌, ◌-◌, ◌*◌, ◌∙◌, ap, length, take, drop, arith}
use Rattle.vrt_words.specs.Words.{words_of}
use Rattle.vrt_words.proofs.RowLemmas.{read-row}
use Rattle.vrt_words.proofs.words.read_words.Goals as goal

pub returns : goal.returns
returns c =
    let a = c.args in
    let got = c.read_u32_into.new.dst in
    let same = c.read_u32_into.auto.dst in
    read-row a.bytes.now got a.index (4 * a.index + 4 * length a.into.now - 4 * a.index) (omega (arith, same)) (omega (arith, same)) c.read_u32_into.ensures
    ∙ ap (λ n. take n (drop a.index (words_of a.bytes.now))) same
