use Rattle.sample_binder.proofs.BinderLemmas.{events_of-more}
use Rattle.sample_binder.proofs.GrowLemmas.{are_releases, are_all_releases}
use Rattle.sample_binder.proofs.laws.events_are_all_releases.Goals as goal

pub returns-clause-more : goal.returns-clause-more
returns-clause-more c = events_of-more

pub returns-clause-arriving : goal.returns-clause-arriving
returns-clause-arriving c = are_releases

pub returns-clause-ending : goal.returns-clause-ending
returns-clause-ending c = are_all_releases
