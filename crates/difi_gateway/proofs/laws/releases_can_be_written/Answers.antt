use Rattle.difi_gateway.proofs.WritableItems.{all_writable, out_writable}
use Rattle.difi_gateway.proofs.laws.releases_can_be_written.Goals as goal

pub returns-clause-items : goal.returns-clause-items
returns-clause-items c = all_writable

pub returns-clause-releases : goal.returns-clause-releases
returns-clause-releases c = out_writable
