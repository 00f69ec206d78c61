use Rattle.site_truth.proofs.ConsequenceLemmas.{all_bound}
use Rattle.site_truth.proofs.laws.all_samples_are_bound.Goals as goal

pub returns : goal.returns
returns c = all_bound
