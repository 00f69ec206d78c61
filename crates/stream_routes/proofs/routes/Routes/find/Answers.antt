use Rattle.std.proofs.Common.{rules}
use Rattle.std.proofs.lemmas.List.Sorted.{answers_always}
use Rattle.stream_routes.proofs.Search.{searched}
use Rattle.stream_routes.proofs.routes.Routes.find.Goals as goal

-- the closure gives a route's stream
pub returns : goal.returns
returns c =
    let by_stream = c.binary_search_by_key.ensures.position (λ route. route.stream) (answers_always _ _ _ (λ f a r g called. search rules)) in
    let parts = searched c.deref.result.now c.args.stream c.binary_search_by_key.result (rw c.deref.ensures.value c.self.invariant.0) c.binary_search_by_key.ensures.bound by_stream in
    let said = rw (c.deref.ensures.value, c.self.view_is, ← c.ok.ensures.value) at parts in
    record {
      found = search (rules, said.found);
      within = search (rules, said.within);
      absent = search (rules, said.absent);
      listed = search (rules, said.listed);
    }
