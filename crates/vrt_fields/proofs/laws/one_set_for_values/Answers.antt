use Rattle.vrt_fields.proofs.FieldLaws.{one_set_of_values}
use Rattle.vrt_fields.proofs.laws.one_set_for_values.Goals as goal

pub returns : goal.returns
returns c = one_set_of_values
