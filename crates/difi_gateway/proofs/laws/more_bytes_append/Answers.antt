use Rattle.difi_gateway.proofs.RunTexts.{part_begins_each}
use Rattle.difi_gateway.proofs.laws.more_bytes_append.Goals as goal

pub returns : goal.returns
returns c = part_begins_each
