-- The ports of a stream, by the routes of a record.
use Rattle.std.specs.Prelude.{◌≡◌, ℕ, ◌==◌, Bool, if◌then◌else◌, List, [], ◌∷◌, take, slice_get, Some}
use Rattle.std.specs.List.{list_any}
use Rattle.std.specs.Option.{option_map_or}
use Rattle.vrt_fields.specs.declared.route.Route.{Route}

-- the route at this index is that of this stream
pub record IsRouteAt (routes : List Route) (stream index : ℕ) : Type 0 where
  pub route : Route
  pub there : slice_get routes index ≡ Some route
  pub stream_is : route.stream ≡ stream

-- a route of this stream is listed
abbrev pub is_listed : List Route → ℕ → Bool
is_listed routes stream = list_any (λ route. route.stream == stream) routes

-- the ports of a route, in its order
abbrev pub ports_in : Route → List ℕ
ports_in route = take route.number route.ports

-- the ports of a stream, in the order of its route
abbrev pub ports_of : List Route → ℕ → List ℕ
ports_of [] stream = []
ports_of (route ∷ routes) stream = if route.stream == stream then ports_in route else ports_of routes stream

-- the ports of the route at this index
abbrev pub ports_at : List Route → ℕ → List ℕ
ports_at routes index = option_map_or ports_in (slice_get routes index) []
