-- Laws of routes: their streams rise, and the ports of a stream are those of its one route.
use Rattle.std.proofs.Common.{◌≡◌, ◌≢◌, ℕ, suc, zero, ◌<◌, ◌≤◌, true, false, List, [], ◌∷◌, length, get_or, refl, sym, ap, ◌∙◌, subst, inl, inr, arith, Some, slice_get}
use Rattle.std.proofs.lemmas.Bool.{cases_eq, cases_lt}
use Rattle.std.proofs.lemmas.Bool.Decides.{nat_tests}
use Rattle.std.proofs.lemmas.Grind.{common_steps}
use Rattle.std.proofs.lemmas.Option.{slice_get_within, slice_get_read, get_or_from_slice_get, gets, same_Some, none-some}
use Rattle.vrt_fields.specs.Route.{IsRoute, AreRoutes}
use Rattle.vrt_fields.specs.declared.route.Route.{Route}
use Rattle.stream_routes.specs.Ports.{IsRouteAt, is_listed, ports_at, ports_in, ports_of}

-- a route of form 1 is one of form 2
route_of_form_2 : (route : Route) → IsRoute false route → IsRoute true route
route_of_form_2 route h = record {
  stream = h.stream;
  from = h.from;
  to = omega (arith, h.to);
  places = h.places;
  fit = h.fit;
  differ = h.differ;
  behind = h.behind;
}

pub routes_of_form_2 : (routes : List Route) → AreRoutes false routes → AreRoutes true routes
routes_of_form_2 routes h = record {
  each = λ k other lt. route_of_form_2 _ (h.each k other lt);
  rising = h.rising;
}

-- the streams of later routes are above
pub streams_rise : (routes : List Route) (other : Route) → AreRoutes true routes → (i j : ℕ) → i < j → j < length routes
    → (get_or routes i other).stream < (get_or routes j other).stream
streams_rise routes other h i zero lt there = absurd (omega (arith, lt))
streams_rise routes other h i (suc j) lt there = elim (cases_lt i j) [
  | inl below ↦
      let before : (get_or routes i other).stream < (get_or routes j other).stream = streams_rise routes other h i j below (omega arith) in
      grind (arith, h.rising j other)
  | inr ge ↦
      let e : i ≡ j = omega arith in
      grind (arith, h.rising j other)
]

-- a route that is there is one of form 2
pub route_there : (routes : List Route) (index : ℕ) (route : Route) → AreRoutes true routes → slice_get routes index ≡ Some route → IsRoute true route
route_there routes index route h e =
    let lt : index < length routes = slice_get_within routes index route e in
    let at : get_or routes index route ≡ route = get_or_from_slice_get routes index route route e in
    subst (λ (r : Route). IsRoute true r) at (h.each index route lt)

-- two routes of one stream are at one index
not_before : (routes : List Route) (stream i j : ℕ) → AreRoutes true routes → IsRouteAt routes stream i → IsRouteAt routes stream j → ¬ (i < j)
not_before routes stream i j h a b lt =
    let there : j < length routes = slice_get_within routes j b.route b.there in
    let first : get_or routes i a.route ≡ a.route = get_or_from_slice_get routes i a.route a.route a.there in
    let second : get_or routes j a.route ≡ b.route = get_or_from_slice_get routes j b.route a.route b.there in
    let less : (get_or routes i a.route).stream < (get_or routes j a.route).stream = streams_rise routes a.route h i j lt there in
    let one : (get_or routes i a.route).stream ≡ stream = ap (λ (r : Route). r.stream) first ∙ a.stream_is in
    let two : (get_or routes j a.route).stream ≡ stream = ap (λ (r : Route). r.stream) second ∙ b.stream_is in
    omega (arith, less, one, two)

pub one_route : (routes : List Route) (stream index other : ℕ) → AreRoutes true routes → IsRouteAt routes stream index → IsRouteAt routes stream other → index ≡ other
one_route routes stream index other h a b =
    let below = not_before routes stream index other h a b in
    let above = not_before routes stream other index h b a in
    elim (cases_lt index other) [
      | inl lt ↦ absurd (below lt)
      | inr ge ↦ elim (cases_lt other index) [ inl lt ↦ absurd (above lt) | inr le ↦ omega arith ]
    ]

-- a route further on is one of the rest
at_rest : (first : Route) (rest : List Route) (stream index : ℕ) → IsRouteAt rest stream index → IsRouteAt (first ∷ rest) stream (suc index)
at_rest first rest stream index h = record { route = h.route; there = h.there; stream_is = h.stream_is }

at_first : (first : Route) (rest : List Route) (stream : ℕ) → first.stream ≡ stream → IsRouteAt (first ∷ rest) stream 0
at_first first rest stream e = record { route = first; there = refl; stream_is = e }

-- a stream with a route is listed
pub listed_there : (routes : List Route) (stream index : ℕ) → IsRouteAt routes stream index → is_listed routes stream ≡ true
listed_there [] stream index h = absurd (none-some _ h.there)
listed_there (first ∷ rest) stream zero h =
    let e : first ≡ h.route = same_Some _ _ h.there in
    let same : first.stream ≡ stream = ap (λ (r : Route). r.stream) e ∙ h.stream_is in
    grind (arith, nat_tests)
listed_there (first ∷ rest) stream (suc index) h =
    let more : is_listed rest stream ≡ true = listed_there rest stream index (record { route = h.route; there = h.there; stream_is = h.stream_is }) in
    grind (arith, nat_tests)

-- a stream without a route is not listed, and has no ports
pub not_listed : (routes : List Route) (stream : ℕ) → ((index : ℕ) → ¬ IsRouteAt routes stream index) → is_listed routes stream ≡ false
not_listed [] stream h = refl
not_listed (first ∷ rest) stream h =
    let other : first.stream ≢ stream = λ e. h 0 (at_first first rest stream e) in
    let more : is_listed rest stream ≡ false = not_listed rest stream (λ index a. h (suc index) (at_rest first rest stream index a)) in
    grind (arith, nat_tests)

pub no_ports : (routes : List Route) (stream : ℕ) → ((index : ℕ) → ¬ IsRouteAt routes stream index) → ports_of routes stream ≡ []
no_ports [] stream h = refl
no_ports (first ∷ rest) stream h =
    let other : first.stream ≢ stream = λ e. h 0 (at_first first rest stream e) in
    let more : ports_of rest stream ≡ [] = no_ports rest stream (λ index a. h (suc index) (at_rest first rest stream index a)) in
    grind (arith, nat_tests)

pub absent : (routes : List Route) (stream index : ℕ) → is_listed routes stream ≡ false → ¬ IsRouteAt routes stream index
absent routes stream index off h =
    let on : is_listed routes stream ≡ true = listed_there routes stream index h in
    grind arith

-- a stream that is listed has a route
pub route_of_listed : (routes : List Route) (stream : ℕ) → is_listed routes stream ≡ true → (index : ℕ) × IsRouteAt routes stream index
route_of_listed [] stream on = absurd (grind arith)
route_of_listed (first ∷ rest) stream on = elim (cases_eq first.stream stream) [
  | inl here ↦ (0, at_first first rest stream here)
  | inr other ↦
      let more : is_listed rest stream ≡ true = grind (arith, nat_tests) in
      let at = route_of_listed rest stream more in
      (suc at.0, at_rest first rest stream at.0 at.1)
]

-- the first route of a stream has its ports
first_ports : (routes : List Route) (stream index : ℕ) (route : Route) → slice_get routes index ≡ Some route → route.stream ≡ stream
    → ((k : ℕ) → k < index → ¬ IsRouteAt routes stream k) → ports_of routes stream ≡ ports_in route
first_ports [] stream index route e same before = absurd (none-some _ e)
first_ports (first ∷ rest) stream zero route e same before =
    let is : first ≡ route = same_Some _ _ e in
    let here : first.stream ≡ stream = ap (λ (r : Route). r.stream) is ∙ same in
    let ports : ports_in first ≡ ports_in route = ap ports_in is in
    grind (arith, nat_tests)
first_ports (first ∷ rest) stream (suc index) route e same before =
    let other : first.stream ≢ stream = λ here. before 0 (omega arith) (at_first first rest stream here) in
    let more : ports_of rest stream ≡ ports_in route = first_ports rest stream index route e same (λ k lt a. before (suc k) (omega arith) (at_rest first rest stream k a)) in
    grind (arith, nat_tests)

pub route_ports : (routes : List Route) (index : ℕ) (route : Route) → AreRoutes true routes → slice_get routes index ≡ Some route
    → ports_of routes route.stream ≡ ports_in route
route_ports routes index route h e =
    let here : IsRouteAt routes route.stream index = record { route = route; there = e; stream_is = refl } in
    first_ports routes route.stream index route e refl (λ k lt a. not_before routes route.stream k index h a here lt)

pub ports_there : (routes : List Route) (stream index : ℕ) → AreRoutes true routes → IsRouteAt routes stream index
    → ports_of routes stream ≡ ports_at routes index
ports_there routes stream index h a =
    let ports : ports_of routes stream ≡ ports_in a.route =
    subst (λ (s : ℕ). ports_of routes s ≡ ports_in a.route) a.stream_is (route_ports routes index a.route h a.there) in
    let at : ports_at routes index ≡ ports_in a.route = rw a.there refl in
    ports ∙ sym at

-- a route has so many ports as it says
pub number_in : (route : Route) → IsRoute true route → length (ports_in route) ≡ route.number
number_in route h = grind (arith, common_steps, h.to, h.places)

pub number_of : (routes : List Route) (index : ℕ) (route : Route) → AreRoutes true routes → slice_get routes index ≡ Some route
    → length (ports_of routes route.stream) ≡ route.number
number_of routes index route h e = ap length (route_ports routes index route h e) ∙ number_in route (route_there routes index route h e)

-- so many ports has the stream of a route
number_there : (routes : List Route) (stream index : ℕ) → AreRoutes true routes → (a : IsRouteAt routes stream index)
    → length (ports_of routes stream) ≡ a.route.number
number_there routes stream index h a =
    subst (λ (s : ℕ). length (ports_of routes s) ≡ a.route.number) a.stream_is (number_of routes index a.route h a.there)

pub some_ports : (routes : List Route) (stream index : ℕ) → AreRoutes true routes → IsRouteAt routes stream index → 1 ≤ length (ports_of routes stream)
some_ports routes stream index h a =
    let number = number_there routes stream index h a in
    let route : IsRoute true a.route = route_there routes index a.route h a.there in
    omega (arith, number, route.from)

pub few_ports : (routes : List Route) (stream index : ℕ) → AreRoutes true routes → IsRouteAt routes stream index → length (ports_of routes stream) ≤ 4
few_ports routes stream index h a =
    let number = number_there routes stream index h a in
    let route : IsRoute true a.route = route_there routes index a.route h a.there in
    omega (arith, number, route.to)

-- what is read of the route at an index, by its stream
pub read_number : (routes : List Route) (index : ℕ) (read : Route) → AreRoutes true routes → index < length routes → read ≡ get_or routes index read
    → (stream : ℕ) → IsRouteAt routes stream index → read.number ≡ length (ports_of routes stream)
read_number routes index read h lt is stream a =
    let there : slice_get routes index ≡ Some read = slice_get_read routes _ index read refl lt is in
    let one : a.route ≡ read = same_Some _ _ (sym a.there ∙ there) in
    sym (number_there routes stream index h a ∙ ap (λ (r : Route). r.number) one)

pub read_port : (routes : List Route) (index place : ℕ) (read : Route) → AreRoutes true routes → index < length routes → read ≡ get_or routes index read
    → place < length (ports_at routes index) → (stream : ℕ) → IsRouteAt routes stream index → slice_get (ports_of routes stream) place ≡ Some (get_or read.ports place 0)
read_port routes index place read h lt is within stream a =
    let there : slice_get routes index ≡ Some read = slice_get_read routes _ index read refl lt is in
    let route : IsRoute true read = route_there routes index read h there in
    let at : ports_at routes index ≡ ports_in read = rw there refl in
    let number : length (ports_in read) ≡ read.number = number_in read route in
    let few : place < read.number = omega (arith, within, number, ap length at) in
    let got : slice_get (ports_in read) place ≡ Some (get_or read.ports place 0) = grind (arith, common_steps, gets, few, number) in
    rw (ports_there routes stream index h a ∙ at) got
