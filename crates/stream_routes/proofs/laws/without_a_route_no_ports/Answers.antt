use Rattle.stream_routes.proofs.PortLaws.{absent, no_ports, not_listed}
use Rattle.stream_routes.proofs.laws.without_a_route_no_ports.Goals as goal

pub returns : goal.returns
returns c = record {
  ports = no_ports;
  listed = not_listed;
  absent = absent;
}
