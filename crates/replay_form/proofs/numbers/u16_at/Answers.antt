-- The bytes from the offset on begin with the number.
use Rattle.std.proofs.Common.{ap, ◌∙◌}
use Rattle.std.proofs.lemmas.List.{take_rest}
use Rattle.byteorder.specs.Endian.{big_from}
use Rattle.replay_form.proofs.NumberLaws.{number_at-drop}
use Rattle.replay_form.proofs.numbers.u16_at.Goals as goal

pub returns : goal.returns
returns c = c.read_u16.ensures ∙ ap (big_from 0 2) (take_rest c.args.bytes.now c.args.offset) ∙ number_at-drop c.args.offset 2 c.args.bytes.now
