use Rattle.sample_binder.proofs.NextLemmas.{taken_within}
use Rattle.sample_binder.proofs.laws.taken_are_outputs.Goals as goal

pub returns : goal.returns
returns c = λ bound calls taken h. taken_within bound.limits bound.contexts bound.packets bound.state bound.told calls taken h
