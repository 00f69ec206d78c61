use Rattle.sample_binder.proofs.TotalLemmas.{counted_arriving, counted_ending, samples_arriving, samples_ending}
use Rattle.sample_binder.proofs.laws.samples_are_at_most_bytes.Goals as goal

pub returns-clause-arriving : goal.returns-clause-arriving
returns-clause-arriving c = samples_arriving

pub returns-clause-ending : goal.returns-clause-ending
returns-clause-ending c = samples_ending

pub returns-clause-counted_arriving : goal.returns-clause-counted_arriving
returns-clause-counted_arriving c = counted_arriving

pub returns-clause-counted_ending : goal.returns-clause-counted_ending
returns-clause-counted_ending c = counted_ending
