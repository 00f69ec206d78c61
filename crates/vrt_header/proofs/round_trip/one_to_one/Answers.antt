-- The laws of the definitions.
use Rattle.vrt_header.proofs.PrologueLaws.{one_prologue}
use Rattle.vrt_header.proofs.SpellingLaws.{one_front}
use Rattle.vrt_header.proofs.round_trip.one_to_one.Goals as goal

pub returns-clause-one_prologue : goal.returns-clause-one_prologue
returns-clause-one_prologue c = one_prologue

pub returns-clause-one_spelling : goal.returns-clause-one_spelling
returns-clause-one_spelling c = one_front
