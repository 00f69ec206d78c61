use Rattle.site_truth.proofs.OutputLemmas as truth
use Rattle.site_truth.proofs.laws.outputs_are_true.Goals as goal

pub returns : goal.returns
returns c = truth.outputs_are_true
