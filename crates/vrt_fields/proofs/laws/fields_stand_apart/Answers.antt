use Rattle.vrt_fields.proofs.FieldLaws.{apart, one_place}
use Rattle.vrt_fields.proofs.laws.fields_stand_apart.Goals as goal

pub returns-clause-places : goal.returns-clause-places
returns-clause-places c = one_place

pub returns-clause-words : goal.returns-clause-words
returns-clause-words c = apart
