use Rattle.difi_gateway.proofs.OneReading.{one_content, one_received}
use Rattle.difi_gateway.proofs.laws.datagrams_hold_one_thing.Goals as goal

pub returns-clause-contents : goal.returns-clause-contents
returns-clause-contents c = one_content

pub returns-clause-frames : goal.returns-clause-frames
returns-clause-frames c = one_received
