use Rattle.std.proofs.Common.{◌≡◌, ◌≤◌, vec_len, vec_capacity}
use Rattle.replay_form.specs.Head.{routes_in}
use Rattle.replay_form.proofs.head_reading.read_routes.Given as goal

-- the routes so far, within the room
abbrev pub invariant-loop-route : goal.invariant-loop-route
invariant-loop-route l = record {
  told : l.routes.items ≡ routes_in l.second l.route l.bytes;
  count : vec_len l.routes ≡ l.route;
  room : 256 ≤ vec_capacity l.routes;
}
