use Rattle.site_truth.proofs.ConsequenceLemmas.{bound_is_known}
use Rattle.site_truth.proofs.laws.bound_contexts_are_known.Goals as goal

pub returns : goal.returns
returns c = bound_is_known
