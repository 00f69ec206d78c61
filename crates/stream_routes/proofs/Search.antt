-- What a binary search for a stream finds among routes.
use Rattle.std.proofs.Common.{◌≡◌, ℕ, ◌<◌, true, List, length, get_or, sym, ap, ◌∙◌, inl, inr, arith, Some, None, Ok, Err, Result, IfSome, IfNone, is_some, Option}
use Rattle.std.specs.List.Sorted.{IsSearchInRange, IsBinarySearchResult, IsNonDecreasingBy}
use Rattle.std.specs.Ordering.{nat_cmp, ordering_index}
use Rattle.std.specs.Result.{result_ok}
use Rattle.std.proofs.lemmas.Bool.{cases_lt}
use Rattle.std.proofs.lemmas.Bool.Decides.{nat_tests}
use Rattle.std.proofs.lemmas.Cmp.{ranked}
use Rattle.std.proofs.lemmas.Option.{slice_get_cases, slice_get_within, get_or_from_slice_get}
use Rattle.vrt_fields.specs.Route.{AreRoutes}
use Rattle.vrt_fields.specs.declared.route.Route.{Route}
use Rattle.stream_routes.specs.Ports.{IsRouteAt, is_listed}
use Rattle.stream_routes.proofs.PortLaws.{streams_rise, listed_there, not_listed}

-- the comparisons with a stream rise along the routes
comparisons_rise : (routes : List Route) (stream : ℕ) → AreRoutes true routes → IsNonDecreasingBy (λ route. ordering_index (nat_cmp route.stream stream)) routes
comparisons_rise routes stream h i j d le there = elim (cases_lt i j) [
  | inl lt ↦
      let rise : (get_or routes i d).stream < (get_or routes j d).stream = streams_rise routes d h i j lt there in
      grind (arith, nat_tests)
  | inr ge ↦
      let e : i ≡ j = omega arith in
      let same : get_or routes i d ≡ get_or routes j d = ap (λ (k : ℕ). get_or routes k d) e in
      rw same (omega arith)
]

-- a search ends at the route of the stream, or none has it
ends_at : (routes : List Route) (stream : ℕ) (r : Result ℕ ℕ) → AreRoutes true routes → IsSearchInRange r (length routes)
    → IsBinarySearchResult (λ route. nat_cmp route.stream stream) routes r
    → record { found : IfSome (result_ok r) (λ index. IsRouteAt routes stream index); absent : IfNone (result_ok r) ((index : ℕ) → ¬ IsRouteAt routes stream index) }
ends_at routes stream (Ok at) h in_range equal = record {
  found = elim (slice_get_cases routes at).1 [
    | inl here ↦ record {
      route = here.0;
      there = here.2;
      stream_is = ap (λ (r : Route). r.stream) (sym here.3) ∙ ranked _ stream _ (sym (equal here.0));
    }
    | inr past ↦ absurd (omega (arith, past.0, in_range))
  ];
  absent = tt;
}
ends_at routes stream (Err at) h in_range parted = record {
  found = tt;
  absent = λ index a.
      let there : index < length routes = slice_get_within routes index a.route a.there in
      let is : get_or routes index a.route ≡ a.route = get_or_from_slice_get routes index a.route a.route a.there in
      let same : (get_or routes index a.route).stream ≡ stream = ap (λ (r : Route). r.stream) is ∙ a.stream_is in
      let parts = parted (comparisons_rise routes stream h) in
      elim (cases_lt index at) [
        | inl lt ↦
            let below : (get_or routes index a.route).stream < stream = ranked _ stream _ (sym (parts.0 index a.route (omega arith) lt)) in
            omega (arith, below, same)
        | inr ge ↦
            let above : stream < (get_or routes index a.route).stream = ranked _ stream _ (sym (parts.1 index a.route (omega arith) there)) in
            omega (arith, above, same)
      ];
}

-- whether a route was found is whether one is listed
found_is_listed : (routes : List Route) (stream : ℕ) (o : Option ℕ) → IfSome o (λ index. IsRouteAt routes stream index)
    → IfNone o ((index : ℕ) → ¬ IsRouteAt routes stream index) → is_some o ≡ is_listed routes stream
found_is_listed routes stream None found absent = sym (not_listed routes stream absent)
found_is_listed routes stream (Some index) found absent = sym (listed_there routes stream index found)

-- a route that was found is in range
found_within : (routes : List Route) (stream : ℕ) (o : Option ℕ) → IfSome o (λ index. IsRouteAt routes stream index) → IfSome o (λ index. index < length routes)
found_within routes stream None found = tt
found_within routes stream (Some index) found = slice_get_within routes index found.route found.there

pub searched : (routes : List Route) (stream : ℕ) (r : Result ℕ ℕ) → AreRoutes true routes → IsSearchInRange r (length routes)
    → IsBinarySearchResult (λ route. nat_cmp route.stream stream) routes r
    → record {
      found : IfSome (result_ok r) (λ index. IsRouteAt routes stream index);
      within : IfSome (result_ok r) (λ index. index < length routes);
      absent : IfNone (result_ok r) ((index : ℕ) → ¬ IsRouteAt routes stream index);
      listed : is_some (result_ok r) ≡ is_listed routes stream;
    }
searched routes stream r h in_range answer =
    let ends = ends_at routes stream r h in_range answer in
    record { found = ends.found; within = found_within routes stream _ ends.found; absent = ends.absent; listed = found_is_listed routes stream _ ends.found ends.absent }
