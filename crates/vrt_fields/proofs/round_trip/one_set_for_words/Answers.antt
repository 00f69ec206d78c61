use Rattle.vrt_fields.proofs.FieldSetLaws.{one_set, width_is_of_fields}
use Rattle.vrt_fields.proofs.round_trip.one_set_for_words.Goals as goal

pub returns : goal.returns
returns c = record {
  one = one_set;
  width = width_is_of_fields;
}
