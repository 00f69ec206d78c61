use Rattle.std.proofs.Common.{◌≡◌, true, length}
use Rattle.vrt_fields.specs.Route.{AreRoutes}
use Rattle.stream_routes.proofs.tests.even_streams.Given as goal

abbrev pub invariant-loop-port : goal.invariant-loop-port
invariant-loop-port l = AreRoutes true l.list.items × (length l.list.items ≡ l.port)
