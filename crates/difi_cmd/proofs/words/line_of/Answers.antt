use Rattle.std.proofs.Common.{◌∙◌, sym}
use Rattle.difi_cmd.specs.LineOfWords.{option_rows}
use Rattle.difi_cmd.proofs.LineLaws.{asked_behind, asked_numbers}
use Rattle.difi_cmd.proofs.words.line_of.Goals as goal

pub returns-in-Err-clause-usage : goal.returns-in-Err-clause-usage
returns-in-Err-clause-usage c = λ is line asks.
    let own = asked_behind c.args.words.now c.in-Some.row.command (option_rows c.in-Some.row.options.now) line c.in-Some.ensures.found c.in-Some.ensures.options asks in
    c.in-Err.ensures.usage (cc) _ own.1

pub returns-clause-usage : goal.returns-clause-usage
returns-clause-usage c = λ is line asks.
    let own = asked_numbers c.args.words.now c.in-Some.row.command (option_rows c.in-Some.row.options.now) c.in-Ok.numbers.items line c.in-Some.ensures.found c.in-Some.ensures.options
    c.in-Ok.ensures.given asks in
    c.in-None.ensures.none line own.0 (own.1 ∙ sym c.deref.ensures.value)
