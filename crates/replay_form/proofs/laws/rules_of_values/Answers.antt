-- Both ways.
use Rattle.replay_form.proofs.HeadSaid.{spelled_by_values}
use Rattle.replay_form.proofs.HeadValues.{values_by_spelled}
use Rattle.replay_form.proofs.laws.rules_of_values.Goals as goal

pub returns : goal.returns
returns c = λ head. (values_by_spelled head, spelled_by_values head)
