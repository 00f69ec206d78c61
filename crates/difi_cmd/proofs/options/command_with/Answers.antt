use Rattle.std.proofs.Common.{◌∙◌, ap, take_all}
use Rattle.difi_cmd.specs.LineOfWords.{names_of, option_rows}
use Rattle.difi_cmd.specs.CommandOfOptions.{app}
use Rattle.difi_cmd.proofs.Rows.{option_next}
use Rattle.difi_cmd.proofs.options.command_with.Goals as goal

pub loop-row-preserved : goal.loop-row-preserved
loop-row-preserved c =
    c.in_ok-command.ensures.shape c.arg.ensures.own
    ∙ option_next c.args.rows.now c.loop-row.row-index _ _ _ c.loop-row-test.true c.loop-row.invariant c.arg.ensures.rule

pub returns : goal.returns
returns c =
    c.loop-row.invariant ∙ ap (λ rows. app (names_of (option_rows rows))) (take_all c.loop-row.row-index c.args.rows.now c.loop-row-test.false)
