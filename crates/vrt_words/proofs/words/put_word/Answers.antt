-- A word that is written replaces the one there, and nothing else.
use Rattle.std.proofs.Common.{◌+◌, ◌*◌, ◌∙◌, ap, drop, arith}
use Rattle.vrt_words.specs.Words.{words_of}
use Rattle.vrt_words.proofs.WordLemmas.{put-is, words_of-put, put-same, behind-put}
use Rattle.vrt_words.proofs.words.put_word.Goals as goal

pub returns-clause-words : goal.returns-clause-words
returns-clause-words c =
    let xs = c.args.bytes.now in
    ap words_of (put-is xs _ c.args.index c.args.word c.requires c.write_u32.ensures)
    ∙ words_of-put xs c.args.index c.args.word c.requires (omega arith)

pub returns-clause-behind : goal.returns-clause-behind
returns-clause-behind c =
    let xs = c.args.bytes.now in
    ap (drop (4 * c.args.index + 4)) (put-is xs _ c.args.index c.args.word c.requires c.write_u32.ensures)
    ∙ behind-put xs c.args.index c.args.word c.requires

pub returns-clause-again : goal.returns-clause-again
returns-clause-again c = λ fits e.
    let xs = c.args.bytes.now in
    put-is xs _ c.args.index c.args.word c.requires c.write_u32.ensures
    ∙ put-same xs c.args.index c.args.word fits c.requires e
