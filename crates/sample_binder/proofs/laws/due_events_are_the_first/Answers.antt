use Rattle.sample_binder.proofs.PrefixLaws.{outputs-prefix}
use Rattle.sample_binder.proofs.LawLemmas.{due_told}
use Rattle.sample_binder.proofs.laws.due_events_are_the_first.Goals as goal

pub returns-clause-due : goal.returns-clause-due
returns-clause-due c = due_told

pub returns-clause-stays : goal.returns-clause-stays
returns-clause-stays c = λ limits events later. outputs-prefix limits later events
