use Rattle.std.proofs.Common.{◌≡◌, ◌∙◌, ◌<◌, ap, arith, length}
use Rattle.std.specs.Char.{is_ascii_digit}
use Rattle.std.specs.List.{list_all}
use Rattle.std.proofs.lemmas.Bool.Decides.{nat_tests}
use Rattle.difi_cmd.proofs.Values.{value_test}
use Rattle.difi_cmd.proofs.options.is_value.Goals as goal

pub returns-then-digits-le-MOST_DIGITS : goal.returns-then-digits-le-MOST_DIGITS
returns-then-digits-le-MOST_DIGITS c =
    let same : length c.as_bytes-digits.result.now ≡ length c.args.text.now = ap length c.as_bytes-digits.ensures.value in
    let some : 0 < length c.args.text.now = grind (arith, nat_tests) in
    value_test c.args.text.now c.all_digits.result (c.all_digits.ensures ∙ ap (list_all is_ascii_digit) c.as_bytes-digits.ensures.value) some (omega arith)
