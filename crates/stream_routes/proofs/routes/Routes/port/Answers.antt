use Rattle.stream_routes.proofs.PortLaws.{read_port}
use Rattle.stream_routes.proofs.routes.Routes.port.Goals as goal

pub returns-clause-of_stream : goal.returns-clause-of_stream
returns-clause-of_stream c =
    rw (← c.self.view_is) (read_port _ _ _ _ c.self.invariant.0 (rw c.self.view_is c.requires.index) c.index.ensures (rw c.self.view_is c.requires.place))
