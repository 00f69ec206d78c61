use Rattle.difi_gateway.proofs.WriteLemmas.{payload_rest}
use Rattle.difi_gateway.proofs.writing.payload_in.Goals as goal

pub returns : goal.returns
returns c = payload_rest _ _ c.min.ensures
