use Rattle.sample_binder.proofs.LawLemmas.{longest_told}
use Rattle.sample_binder.proofs.laws.stretches_are_the_longest.Goals as goal

pub returns : goal.returns
returns c = longest_told
