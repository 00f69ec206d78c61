use Rattle.sample_binder.proofs.ArrivalLemmas.{all_split}
use Rattle.sample_binder.proofs.GrowLemmas.{releases_grow}
use Rattle.sample_binder.proofs.laws.releases_only_grow.Goals as goal

pub returns-clause-arriving : goal.returns-clause-arriving
returns-clause-arriving g c = releases_grow

pub returns-clause-ending : goal.returns-clause-ending
returns-clause-ending g c = λ size arrivals. all_split size arrivals 0
