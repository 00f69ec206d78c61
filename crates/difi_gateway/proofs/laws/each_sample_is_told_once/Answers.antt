use Rattle.difi_gateway.proofs.ToldOnceLemmas.{told_once}
use Rattle.difi_gateway.proofs.laws.each_sample_is_told_once.Goals as goal

pub returns : goal.returns
returns c = told_once
