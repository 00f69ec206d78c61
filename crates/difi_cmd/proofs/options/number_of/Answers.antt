use Rattle.difi_cmd.proofs.Values.{value_parses}
use Rattle.difi_cmd.proofs.options.number_of.Goals as goal

pub returns-then-is_value-clause-none : goal.returns-then-is_value-clause-none
returns-then-is_value-clause-none c =
    let is = value_parses c.args.text.now c.parse.result (c.is_value.ensures.0 c.if-is_value.true) c.parse.ensures.value.0 in
    rw (c.ok.ensures.value, is) tt
