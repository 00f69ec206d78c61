-- The words that were read spell the prologue.
use Rattle.std.proofs.Common.{take, arith}
use Rattle.vrt_words.specs.Words.{words_of}
use Rattle.vrt_words.proofs.WordLaws.{words_of-words, AreWords-take}
use Rattle.command_prologue.specs.CommandPrologue.{command_words}
use Rattle.command_prologue.proofs.tests.written_again.Goals as goal

pub write_command_prologue-requires-clause-spelled : goal.write_command_prologue-requires-clause-spelled
write_command_prologue-requires-clause-spelled c =
    let words = words_of c.args.bytes.now in
    let m = command_words c.in-Ok.front in
    (take m words, AreWords-take m words (words_of-words c.args.bytes.now (λ i. omega (arith, c.type_inv.bytes i))), c.in-Ok.ensures.found.1)
