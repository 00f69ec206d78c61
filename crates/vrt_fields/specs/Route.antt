-- Where packets of a stream go to.
use Rattle.std.specs.Prelude.{◌≡◌, ◌≢◌, ℕ, ◌+◌, ◌<◌, ◌≤◌, ◌^◌, Bool, if◌then◌else◌, List, length, slice_index, get_or}
use Rattle.vrt_fields.specs.declared.route.Route.{Route}

-- a stream goes to one port, in form 2 to up to four; each is another, and the others are 0
pub record IsRoute (second : Bool) (route : Route) : Type 0 where
  pub stream : route.stream < 2 ^ 32
  pub from : 1 ≤ route.number
  pub to : route.number ≤ (if second then 4 else 1)
  pub places : length route.ports ≡ 4
  pub fit : (place : ℕ) → slice_index route.ports place < 2 ^ 16
  pub differ : (place earlier : ℕ) → place < route.number → earlier < place → slice_index route.ports earlier ≢ slice_index route.ports place
  pub behind : (place : ℕ) → route.number ≤ place → slice_index route.ports place ≡ 0

-- routes of a form, by rising streams
pub record AreRoutes (second : Bool) (routes : List Route) : Type 0 where
  pub each : (k : ℕ) (other : Route) → k < length routes → IsRoute second (get_or routes k other)
  pub rising : (k : ℕ) (other : Route) → k + 1 < length routes → (get_or routes k other).stream < (get_or routes (k + 1) other).stream
