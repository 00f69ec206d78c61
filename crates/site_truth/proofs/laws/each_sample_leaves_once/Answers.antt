use Rattle.site_truth.proofs.ConsequenceLemmas.{leaves_once}
use Rattle.site_truth.proofs.laws.each_sample_leaves_once.Goals as goal

pub returns : goal.returns
returns c = leaves_once
