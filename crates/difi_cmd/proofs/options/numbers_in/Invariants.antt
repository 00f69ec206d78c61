use Rattle.clap.specs.Words.{first_value, found_of}
use Rattle.std.proofs.Common.{take}
use Rattle.difi_cmd.specs.LineOfWords.{AreGiven, option_rows, value_list}
use Rattle.difi_cmd.proofs.options.numbers_in.Given as goal

abbrev pub invariant-loop-row : goal.invariant-loop-row
invariant-loop-row l = AreGiven (option_rows (take l.row-index l.rows)) (λ name. value_list (first_value (found_of l.matches) name)) l.numbers.items
