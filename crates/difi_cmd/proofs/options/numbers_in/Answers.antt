use Rattle.std.proofs.Common.{◌+◌, List, Option, ℕ, sym, subst, take}
use Rattle.clap.specs.Words.{first_value, found_of}
use Rattle.difi_cmd.specs.LineOfWords.{AreGiven, option_rows, value_list}
use Rattle.difi_cmd.proofs.Rows.{given_next, none_at}
use Rattle.difi_cmd.proofs.options.numbers_in.Goals as goal

pub loop-row-preserved : goal.loop-row-preserved
loop-row-preserved c =
    let value = first_value (found_of c.args.matches.now) in
    let next = given_next c.args.rows.now c.loop-row.row-index _ value c.loop-row.numbers.items _ c.in-Ok.number c.loop-row-test.true c.get_str.ensures c.loop-row.invariant c.in-Ok.ensures.given in
    subst (λ (numbers : List (Option ℕ)). AreGiven (option_rows (take (c.loop-row.row-index + 1) c.args.rows.now)) (λ name. value_list (value name)) numbers) (sym c.in-Ok-push.ensures.items) next

pub returns-in-Err-clause-usage : goal.returns-in-Err-clause-usage
returns-in-Err-clause-usage c = λ is.
    none_at c.args.rows.now c.loop-row.row-index _ (first_value (found_of c.args.matches.now)) _ c.loop-row-test.true c.get_str.ensures (c.in-Err.ensures.usage (cc))
