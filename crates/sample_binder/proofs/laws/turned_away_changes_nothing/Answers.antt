use Rattle.sample_binder.proofs.TurnedLemmas.{context_turned, packet_turned}
use Rattle.sample_binder.proofs.laws.turned_away_changes_nothing.Goals as goal

pub returns-clause-contexts : goal.returns-clause-contexts
returns-clause-contexts c = λ same limits calls later rec why e. context_turned limits same calls later rec why e

pub returns-clause-packets : goal.returns-clause-packets
returns-clause-packets c = λ same limits calls later buf why e. packet_turned limits same calls later buf why e
