use Rattle.std.proofs.Common.{◌≡◌, take}
use Rattle.clap.specs.Words.{app_of}
use Rattle.difi_cmd.specs.LineOfWords.{names_of, option_rows}
use Rattle.difi_cmd.specs.CommandOfOptions.{app}
use Rattle.difi_cmd.proofs.options.command_with.Given as goal

abbrev pub invariant-loop-row : goal.invariant-loop-row
invariant-loop-row l = app_of l.command ≡ app (names_of (option_rows (take l.row-index l.rows)))
