use Rattle.difi_gateway.specs.Steps.{gated}
use Rattle.difi_gateway.specs.State.{IsPlaced}
use Rattle.difi_gateway.proofs.WriteLemmas.{some_route, version_next}
use Rattle.std.proofs.Common.{subst}
use Rattle.difi_gateway.proofs.parts.Parts.version.Goals as goal

pub returns : goal.returns
returns c =
    version_next (gated c.args.self.now) c.args.index c.port.result
    (c.port.ensures.of_stream _ (some_route c.args.self.now.routes c.args.index
    (subst (λ t. IsPlaced c.args.self.now.routes t c.args.self.now.place) c.requires.told c.requires.placed).0))
    c.requires.told
