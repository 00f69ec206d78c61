use Rattle.stream_routes.proofs.PortLaws.{read_number}
use Rattle.stream_routes.proofs.routes.Routes.ports.Goals as goal

pub returns-clause-of_stream : goal.returns-clause-of_stream
returns-clause-of_stream c = rw (← c.self.view_is) (read_number _ _ _ c.self.invariant.0 (rw c.self.view_is c.requires) c.index.ensures)
