use Rattle.difi_gateway.proofs.ToldOnceLemmas.{record_true}
use Rattle.difi_gateway.proofs.laws.each_record_is_true.Goals as goal

pub returns : goal.returns
returns c = record_true
