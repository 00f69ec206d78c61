-- The laws of the definition.
use Rattle.command_prologue.proofs.CommandPrologueLaws.{one_command_prologue}
use Rattle.command_prologue.proofs.SpellingLaws.{one_words}
use Rattle.command_prologue.proofs.round_trip.one_to_one.Goals as goal

pub returns-clause-one_prologue : goal.returns-clause-one_prologue
returns-clause-one_prologue c = one_command_prologue

pub returns-clause-one_spelling : goal.returns-clause-one_spelling
returns-clause-one_spelling c = one_words
