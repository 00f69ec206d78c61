-- Each word is the number that its fields make.
use Rattle.std.proofs.Common.{◌+◌, ◌*◌, ◌%◌, ◌∷◌, ◌∙◌, ap, sym, take, get_or, arith}
use Rattle.vrt_header.specs.Header.{prologue_words}
use Rattle.vrt_header.proofs.SpellingLaws.{spelled, stamp_items}
use Rattle.vrt_header.proofs.writing.words_of_prologue.Goals as goal

pub returns : goal.returns
returns c = λ words fits h.
    let p = c.args.prologue.now in
    let class = c.from.result * 134217728 % 4294967296 + c.cid.result in
    let codes = c.from-2.result * 65536 % 4294967296 + c.from-3.result in
    spelled c.args.profile p words c.header_word-first.result class codes fits h
    (c.header_word-first.ensures (get_or words 0 0) (fits 0) h.header)
    (omega (arith, fits 2, h.pad, h.class_word.cid, h.class_word.clear, c.from.ensures, c.cid.ensures.number))
    (omega (arith, fits 3, h.information, h.packet, c.from-2.ensures, c.from-3.ensures))
    ∙ ap (λ s. take (prologue_words p.header.timed) (c.header_word-first.result ∷ p.stream ∷ class ∷ codes ∷ s)) (sym (stamp_items p.stamp c.words_of_stamp.result c.words_of_stamp.ensures))
