use Rattle.difi_gateway.proofs.OpeningLemmas.{opened_ready, opened_rests, opened_stands}
use Rattle.difi_gateway.proofs.gateway.Gateway.open.Goals as goal

pub invariant_of-result : goal.invariant_of-result
invariant_of-result c = opened_ready c.args.head.now _ c.requires c.in_ok-parts.ensures

pub returns-clause-stands : goal.returns-clause-stands
returns-clause-stands c = opened_stands c.args.head.now _ c.requires c.in_ok-parts.ensures

pub returns-clause-rest : goal.returns-clause-rest
returns-clause-rest c = opened_rests c.args.head.now _ c.in_ok-parts.ensures
