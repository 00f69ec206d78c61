-- The parts are written one after another, and are the words of the prologue.
use Rattle.std.proofs.Common.{◌≡◌, ◌*◌, ◌++◌, ◌∷◌, [], take, drop, sym, ap, ◌∙◌, subst, arith}
use Rattle.vrt_words.specs.Words.{words_of}
use Rattle.vrt_words.proofs.WordLaws.{length-words_of, AreWords-take, same_later}
use Rattle.vrt_header.specs.Header.{prologue_words}
use Rattle.cam_field.specs.Ident.{ident_words}
use Rattle.command_prologue.specs.CommandPrologue.{IsCommandPrologue}
use Rattle.command_prologue.proofs.SpellingLaws.{take_put, row_of, row_words, named_sizes, one_words}
use Rattle.command_prologue.proofs.writing.write_command_prologue.Goals as goal

pub write_prologue-start-requires-clause-spelled : goal.write_prologue-start-requires-clause-spelled
write_prologue-start-requires-clause-spelled c =
    let s = c.requires.spelled in
    let n = prologue_words c.args.front.now.prologue.header.timed in
    (take n s.0, AreWords-take n s.0 s.1, s.2.prologue.prologue)

row : (c : goal.After-slice_known-5-1) → take c.put_identity.result (words_of c.put_identity.new.into) ≡ c.requires.spelled.0
row c =
    let s = c.requires.spelled in
    let front = c.args.front.now in
    let n = prologue_words front.prologue.header.timed in
    let first = words_of c.write_prologue-start.new.into in
    let second = words_of c.put_mode-named.new.into in
    let third = words_of c.put_identity-middle.new.into in
    let fourth = words_of c.put_identity.new.into in
    let mode = c.put_mode-named.ensures.words in
    let middle = c.put_mode-named.result in
    let last = c.put_identity-middle.result in
    let a = ident_words front.controllee in
    let b = ident_words front.controller in
    let sizes = named_sizes c.args.profile c.args.role front s.0 s.2 in
    let start = c.write_prologue-start.ensures.length in
    let there = length-words_of c.write_prologue-start.new.into in
    let there' = length-words_of c.put_mode-named.new.into in
    let there'' = length-words_of c.put_identity-middle.new.into in
    let e2 : take middle second ≡ take c.write_prologue-start.result first ++ (mode.0 ∷ front.message ∷ []) =
    take_put c.write_prologue-start.result middle second first (mode.0 ∷ front.message ∷ []) (drop middle first) (omega (arith, sizes, start, there, c.requires.room)) c.put_mode-named.ensures.end mode.3 in
    let e3 : take last third ≡ take middle second ++ a =
    take_put middle last third second a (drop last second) (omega (arith, sizes, start, there', c.requires.room)) c.put_identity-middle.ensures.end c.put_identity-middle.ensures.words in
    let e4 : take c.put_identity.result fourth ≡ take last third ++ b =
    take_put last c.put_identity.result fourth third b (drop c.put_identity.result third) (omega (arith, sizes, start, there'', c.requires.room)) c.put_identity.ensures.end c.put_identity.ensures.words in
    let e1 : take c.write_prologue-start.result first ≡ take n s.0 =
    c.write_prologue-start.ensures.again (take n s.0) (AreWords-take n s.0 s.1) s.2.prologue.prologue in
    e4 ∙ ap (λ xs. xs ++ b) (e3 ∙ ap (λ xs. xs ++ a) e2)
    ∙ row_of front (take c.write_prologue-start.result first) mode.0
    ∙ row_words c.args.profile c.args.role front s.0 (take c.write_prologue-start.result first) mode.0 s.1 mode.1 mode.2 s.2 e1

pub returns-clause-front : goal.returns-clause-front
returns-clause-front c = subst (IsCommandPrologue c.args.profile c.args.role c.args.front.now) (sym (row c)) c.requires.spelled.2

pub returns-clause-again : goal.returns-clause-again
returns-clause-again c = λ words fit h.
    row c ∙ one_words c.args.profile c.args.role c.args.front.now c.requires.spelled.0 words c.requires.spelled.1 fit c.requires.spelled.2 h

pub returns-clause-behind : goal.returns-clause-behind
returns-clause-behind c =
    let n = 4 * c.put_identity.result in
    let start = c.write_prologue-start.ensures.length in
    c.put_identity.ensures.behind
    ∙ same_later (4 * c.put_identity-middle.result) n c.put_identity-middle.new.into c.put_mode-named.new.into (omega arith) c.put_identity-middle.ensures.behind
    ∙ same_later (4 * c.put_mode-named.result) n c.put_mode-named.new.into c.write_prologue-start.new.into (omega arith) c.put_mode-named.ensures.behind
    ∙ same_later (4 * c.write_prologue-start.result) n c.write_prologue-start.new.into c.args.into.now (omega arith) c.write_prologue-start.ensures.behind
