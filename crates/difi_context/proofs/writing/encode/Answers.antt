-- The words written are those of the packet, and the bytes behind them stay.
use Rattle.std.proofs.Common.{◌+◌, ◌*◌, ◌≤◌, ◌∙◌, take, length, arith}
use Rattle.vrt_words.specs.Words.{words_of}
use Rattle.vrt_words.proofs.WordLaws.{AreWords-take, words_of-words, same_later}
use Rattle.difi_context.proofs.EncodingLemmas.{encoded, datagram_in_front, same_in_front, most_words, count_fields}
use Rattle.difi_context.proofs.writing.encode.Goals as goal

pub write_prologue-requires-clause-spelled : goal.write_prologue-requires-clause-spelled
write_prologue-requires-clause-spelled c =
    let a = c.requires.allowed in
    (take 7 a.words, AreWords-take 7 a.words a.are_words, a.packet.prologue.prologue)

pub returns-clause-again : goal.returns-clause-again
returns-clause-again c = λ bytes fits d.
    let rec = c.args.rec.now in
    let there : 108 ≤ length c.put_words.new.bytes = omega (arith, c.requires.room) in
    let first : 108 ≤ length c.write_prologue.new.into = omega (arith, c.requires.room) in
    same_in_front c.args.profile rec c.put_words.new.bytes bytes there (λ i. omega (arith, c.type_inv.into i)) fits d
    (encoded c.args.profile rec c.write_prologue.new.into c.put_word.new.bytes c.put_words.new.bytes c.write_prologue.result c.cif0.result
    c.write_prologue.ensures.length c.write_prologue.ensures.again first c.cif0.ensures c.put_word.ensures.words c.put_words.ensures.words
    (words_of bytes) (words_of-words bytes fits) d.packet)

pub returns-clause-packet : goal.returns-clause-packet
returns-clause-packet c =
    let rec = c.args.rec.now in
    let a = c.requires.allowed in
    let there : 108 ≤ length c.put_words.new.bytes = omega (arith, c.requires.room) in
    let first : 108 ≤ length c.write_prologue.new.into = omega (arith, c.requires.room) in
    datagram_in_front c.args.profile rec c.put_words.new.bytes a.words there a.packet
    (encoded c.args.profile rec c.write_prologue.new.into c.put_word.new.bytes c.put_words.new.bytes c.write_prologue.result c.cif0.result
    c.write_prologue.ensures.length c.write_prologue.ensures.again first c.cif0.ensures c.put_word.ensures.words c.put_words.ensures.words
    a.words a.are_words a.packet)

pub returns-clause-behind : goal.returns-clause-behind
returns-clause-behind c =
    let rec = c.args.rec.now in
    let fields = count_fields c.args.profile rec c.requires.allowed.words c.requires.allowed.packet in
    let words = most_words rec.prologue.header.timed in
    same_later (4 * (8 + length rec.fields)) 108 c.put_words.new.bytes c.put_word.new.bytes (omega arith) c.put_words.ensures.behind
    ∙ same_later 32 108 c.put_word.new.bytes c.write_prologue.new.into (omega arith) c.put_word.ensures.behind
    ∙ same_later (4 * c.write_prologue.result) 108 c.write_prologue.new.into c.args.into.now (omega (arith, c.write_prologue.ensures.length)) c.write_prologue.ensures.behind
