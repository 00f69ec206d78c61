use Rattle.stream_routes.proofs.PortLaws.{one_route, route_of_listed}
use Rattle.stream_routes.proofs.laws.a_stream_has_one_route.Goals as goal

pub returns : goal.returns
returns c = record { there = route_of_listed; one = one_route }
