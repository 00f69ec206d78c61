-- The law of the definition.
use Rattle.cam_field.proofs.CamLaws.{one_word}
use Rattle.cam_field.proofs.round_trip.one_to_one.Goals as goal

pub returns-clause-one_word : goal.returns-clause-one_word
returns-clause-one_word c = one_word
