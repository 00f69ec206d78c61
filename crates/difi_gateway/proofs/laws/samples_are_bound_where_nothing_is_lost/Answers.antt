use Rattle.difi_gateway.proofs.BoundLemmas.{told_bound}
use Rattle.difi_gateway.proofs.laws.samples_are_bound_where_nothing_is_lost.Goals as goal

pub returns : goal.returns
returns c = told_bound
