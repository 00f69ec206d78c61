use Rattle.std.proofs.Common.{◌≡◌, ◌∙◌, drop, map, string_bytes, sym, true, false}
use Rattle.std.proofs.lemmas.Result.{IfOk-weaker}
use Rattle.difi_cmd.specs.LineOfWords.{option_rows}
use Rattle.difi_cmd.proofs.Numbers.{are_within, no_stray, numbers_of_values, value_of_each, values_give}
use Rattle.difi_cmd.proofs.options.numbers_given.Goals as goal

pub returns-then-has_stray-clause-usage : goal.returns-then-has_stray-clause-usage
returns-then-has_stray-clause-usage c = λ is numbers given.
    let stray = sym c.if-has_stray.true ∙ (c.has_stray.ensures ∙ no_stray (option_rows c.args.rows.now) _ numbers c.requires given) in
    let bad : true ≡ false = stray in
    cc

pub returns-in-Ok-clause-given : goal.returns-in-Ok-clause-given
returns-in-Ok-clause-given c =
    IfOk-weaker c.numbers_in.result _ _ (λ numbers h. numbers_of_values (option_rows c.args.rows.now) (drop 1 (map string_bytes c.args.words.now)) _ numbers.items c.in-Ok.ensures.given h) c.numbers_in.ensures.given

pub returns-in-Ok-clause-within : goal.returns-in-Ok-clause-within
returns-in-Ok-clause-within c =
    IfOk-weaker c.numbers_in.result _ _ (λ numbers h. are_within (option_rows c.args.rows.now) _ numbers.items c.requires h) c.numbers_in.ensures.given

pub returns-in-Ok-clause-usage : goal.returns-in-Ok-clause-usage
returns-in-Ok-clause-usage c = λ is numbers given.
    c.numbers_in.ensures.usage is numbers (values_give (option_rows c.args.rows.now) _ _ numbers c.requires c.in-Ok.ensures.given given)

pub returns-in-Err-clause-usage : goal.returns-in-Err-clause-usage
returns-in-Err-clause-usage c = λ is numbers given.
    c.in-Err.ensures.usage (cc) _ (value_of_each (option_rows c.args.rows.now) _ numbers given)
