use Rattle.difi_cmd.proofs.OneStatus.{one_status}
use Rattle.difi_cmd.proofs.laws.bytes_have_one_status.Goals as goal

pub returns : goal.returns
returns c = one_status
