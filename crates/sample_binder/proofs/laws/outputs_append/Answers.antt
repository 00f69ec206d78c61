use Rattle.sample_binder.proofs.PartLemmas.{outputs_append, later_packets}
use Rattle.sample_binder.proofs.laws.outputs_append.Goals as goal

pub returns-clause-added : goal.returns-clause-added
returns-clause-added c = outputs_append

pub returns-clause-whole : goal.returns-clause-whole
returns-clause-whole c = later_packets
