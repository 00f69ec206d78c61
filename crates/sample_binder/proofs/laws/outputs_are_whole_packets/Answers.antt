use Rattle.sample_binder.proofs.PartLemmas.{outputs_whole, given_whole}
use Rattle.sample_binder.proofs.laws.outputs_are_whole_packets.Goals as goal

pub returns-clause-all : goal.returns-clause-all
returns-clause-all c = outputs_whole

pub returns-clause-added : goal.returns-clause-added
returns-clause-added c = given_whole
