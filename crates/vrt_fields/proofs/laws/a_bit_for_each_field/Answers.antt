use Rattle.vrt_fields.proofs.FieldLaws.{bit_where_there, no_bit_where_none}
use Rattle.vrt_fields.proofs.laws.a_bit_for_each_field.Goals as goal

pub returns : goal.returns
returns c = record {
  set = bit_where_there;
  clear = no_bit_where_none;
}
