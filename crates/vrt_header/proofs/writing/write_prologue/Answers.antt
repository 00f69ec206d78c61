-- The words in front are those of the prologue, and the bytes behind them stay.
use Rattle.std.proofs.Common.{◌≡◌, ◌+◌, ◌*◌, ◌∙◌, ap, sym, subst, take, drop, length, arith}
use Rattle.std.proofs.lemmas.List.{take_at}
use Rattle.vrt_words.specs.Words.{words_of}
use Rattle.vrt_header.specs.Prologue.{IsPrologue}
use Rattle.vrt_header.proofs.writing.write_prologue.Goals as goal

pub returns-clause-again : goal.returns-clause-again
returns-clause-again c = λ words fits h.
    let row = c.words_of_prologue-words.result in
    let count = c.word_count-count.result in
    let same : take count row ≡ words = ap (λ n. take n row) c.word_count-count.ensures ∙ sym (c.words_of_prologue-words.ensures words fits h) in
    ap (take count) c.put_words.ensures.words
    ∙ take_at (take count row) (drop (0 + length (take count row)) (words_of c.args.into.now)) count (ap length same ∙ h.all ∙ sym c.word_count-count.ensures)
    ∙ same

pub returns-clause-prologue : goal.returns-clause-prologue
returns-clause-prologue c =
    let s = c.requires.spelled in
    subst (IsPrologue c.args.profile c.args.prologue.now) (sym (returns-clause-again c s.0 s.1 s.2)) s.2

pub returns-clause-behind : goal.returns-clause-behind
returns-clause-behind c =
    let s = c.requires.spelled in
    let row = c.words_of_prologue-words.result in
    let count = c.word_count-count.result in
    let same : take count row ≡ s.0 = ap (λ n. take n row) c.word_count-count.ensures ∙ sym (c.words_of_prologue-words.ensures s.0 s.1 s.2) in
    let all : 4 * (0 + length (take count row)) ≡ 4 * count = omega (arith, ap length same, s.2.all, c.word_count-count.ensures) in
    subst (λ n. drop n c.put_words.new.bytes ≡ drop n c.args.into.now) all c.put_words.ensures.behind
