-- The word that is read is the list's.
use Rattle.std.proofs.Common.{◌*◌, ◌∙◌, ap, arith}
use Rattle.std.proofs.lemmas.List.{take_rest}
use Rattle.byteorder.specs.Endian.{big_number}
use Rattle.vrt_words.proofs.WordLemmas.{word_in-there}
use Rattle.vrt_words.proofs.words.word_in.Goals as goal

pub returns : goal.returns
returns c =
    let xs = c.args.bytes.now in
    let i = c.args.index in
    c.read_u32.ensures ∙ ap (big_number 4) (take_rest xs (4 * i)) ∙ word_in-there xs i (omega arith)
