use Rattle.difi_gateway.specs.Steps.{gated}
use Rattle.difi_gateway.specs.State.{stream_at}
use Rattle.difi_gateway.proofs.WriteLemmas.{route_in, run_next}
use Rattle.stream_routes.specs.Ports.{IsRouteAt}
use Rattle.std.proofs.Common.{subst}
use Rattle.difi_gateway.proofs.parts.Parts.destination.Goals as goal

pub returns : goal.returns
returns c =
    let same = route_in c.args.self.now.routes c.args.index c.stream.result c.stream.ensures in
    run_next (gated c.args.self.now) c.args.index c.port.result
    (c.port.ensures.of_stream (stream_at c.args.self.now.routes c.args.index) (subst (λ s. IsRouteAt c.args.self.now.routes s c.args.index) same c.stream.ensures))
    c.stream.result c.args.lost c.args.self.now.run same c.requires.told
