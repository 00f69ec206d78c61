use Rattle.stream_routes.proofs.PortLaws.{listed_there, number_of, ports_there, few_ports, route_ports, some_ports}
use Rattle.stream_routes.proofs.laws.ports_are_those_of_the_route.Goals as goal

pub returns : goal.returns
returns c = record {
  listed = listed_there;
  route = route_ports;
  at = ports_there;
  number = number_of;
  some = some_ports;
  few = few_ports;
}
