-- The releases of a stream for one of its ports are those of its outputs, which are true of a delivery.
use Rattle.std.proofs.Common.{◌≡◌, ◌≢◌, ℕ, zero, suc, ◌<◌, ◌==◌, ◌&&◌, Bool, true, false, cond, List, [], ◌∷◌, ◌++◌, length, map, take, get_or, slice_get, Some, refl, sym, ap, ◌∙◌, subst, inl, inr, arith}
use Rattle.std.proofs.lemmas.Bool.{cases_lt}
use Rattle.std.proofs.lemmas.Bool.Decides.{nat_tests}
use Rattle.std.proofs.lemmas.List.{append-nil}
use Rattle.std.proofs.lemmas.List.Elements.{filter-append}
use Rattle.std.proofs.lemmas.Option.{same_Some, none-some}
use Rattle.std.specs.List.{flat_map}
use Rattle.vrt_fields.specs.Route.{IsRoute, AreRoutes}
use Rattle.vrt_fields.specs.declared.route.Route.{Route}
use Rattle.replay_form.specs.declared.record_head.RecordHead.{RecordHead}
use Rattle.release_form.specs.declared.shown.Shown.TheVariants as shown
use Rattle.stream_routes.specs.Ports.{is_listed, ports_in, ports_of}
use Rattle.stream_routes.proofs.PortLaws.{absent, no_ports, route_of_listed, route_ports, route_there, routes_of_form_2}
use Rattle.sample_binder.specs.Calls.{Call, EndCall, outputs_of}
use Rattle.sample_binder.specs.Parts.{Part, outs_of, payload_of}
use Rattle.sample_binder.specs.declared.out.Out.TheVariants as out
use Rattle.sample_binder.specs.declared.out.Run.{Run}
use Rattle.site_truth.specs.Delivered.{Delivery, all_calls}
use Rattle.site_truth.proofs.OutputLemmas.{outputs_are_true}
use Rattle.difi_gateway.specs.Contents.{Received}
use Rattle.difi_gateway.specs.Calls.{calls}
use Rattle.difi_gateway.specs.Told.{Item, RefusedItem, RunItem, VersionItem, runs_from, runs_told}
use Rattle.difi_gateway.specs.Releases.{Release, all_told, copies, copies_of, counts_of, out_of}
use Rattle.difi_gateway.specs.Isolation.{is_run_of, runs_of_stream}
use Rattle.difi_gateway.specs.StreamDelivered.{IsPortOf, IsStreamDelivered}
use Rattle.difi_gateway.specs.TrueText.{AreTrueOf, is_run_for, release_of, releases_for, releases_of_part, releases_of_runs}
use Rattle.difi_gateway.proofs.StreamRuns.{true_or_false, equal_to, itself, parts_begin, all_runs}

-- ---- the ports of a stream

taken_at : (n : ℕ) (xs : List ℕ) (i p : ℕ) → slice_get (take n xs) i ≡ Some p → (i < n) × (get_or xs i 0 ≡ p)
taken_at zero xs i p e = absurd (none-some _ e)
taken_at (suc n) [] i p e = absurd (none-some _ e)
taken_at (suc n) (x ∷ xs) zero p e = (omega arith, same_Some _ _ e)
taken_at (suc n) (x ∷ xs) (suc i) p e = let t = taken_at n xs i p e in (omega (arith, t.0), t.1)

-- none stands twice
abbrev pub AreDifferent : List ℕ → Type 0
AreDifferent ports = (i j p : ℕ) → slice_get ports i ≡ Some p → slice_get ports j ≡ Some p → i ≡ j

ports_differ : (route : Route) → IsRoute true route → AreDifferent (ports_in route)
ports_differ route h i j p a b =
    let one = taken_at route.number route.ports i p a in
    let two = taken_at route.number route.ports j p b in
    elim (cases_lt i j) [
      | inl lt ↦ absurd (h.differ j i two.0 lt (one.1 ∙ sym two.1))
      | inr ge ↦ elim (cases_lt j i) [ inl lt ↦ absurd (h.differ i j one.0 lt (two.1 ∙ sym one.1)) | inr le ↦ omega (arith, ge, le) ]
    ]

second_form : (second : Bool) (routes : List Route) → AreRoutes second routes → AreRoutes true routes
second_form true routes h = h
second_form false routes h = routes_of_form_2 routes h

pub listed_by_port : (routes : List Route) (stream port : ℕ) → IsPortOf routes stream port → is_listed routes stream ≡ true
listed_by_port routes stream port p = elim (true_or_false (is_listed routes stream)) [
  | inl on ↦ on
  | inr off ↦
      let none : ports_of routes stream ≡ [] = no_ports routes stream (λ index a. absent routes stream index off a) in
      absurd (none-some _ (sym (ap (λ ps. slice_get ps p.0) none) ∙ p.1))
]

pub stream_ports_differ : (second : Bool) (routes : List Route) (stream : ℕ) → AreRoutes second routes → is_listed routes stream ≡ true
    → AreDifferent (ports_of routes stream)
stream_ports_differ second routes stream h on =
    let r = second_form second routes h in
    let a = route_of_listed routes stream on in
    let ports : ports_of routes stream ≡ ports_in a.1.route =
    subst (λ (s : ℕ). ports_of routes s ≡ ports_in a.1.route) a.1.stream_is (route_ports routes a.0 a.1.route r a.1.there) in
    subst AreDifferent (sym ports) (ports_differ a.1.route (route_there routes a.0 a.1.route r a.1.there))

-- ---- the copies of one item

not_equal : (a b : ℕ) → a ≢ b → (a == b) ≡ false
not_equal a b h = grind (arith, nat_tests)

module _ (stream port lost : ℕ) (run : Run) (payload : List ℕ) where
  abbrev copy_to : ℕ → ℕ → Release
  copy_to other p = release_of other p payload lost run

  for_port : (p : ℕ) (b : Bool) → (p == port) ≡ b → (stream == stream && p == port) ≡ b
  for_port p b e = ap (λ a. a && p == port) (itself stream) ∙ e

  no_copy : (ports : List ℕ) → ((i : ℕ) → slice_get ports i ≢ Some port) → releases_for stream port (map (copy_to stream) ports) ≡ []
  no_copy [] h = refl
  no_copy (p ∷ ports) h =
      let rest = releases_for stream port (map (copy_to stream) ports) in
      ap (λ b. cond b (copy_to stream p ∷ rest) rest) (for_port p false (not_equal p port (λ e. h 0 (ap Some e)))) ∙ no_copy ports (λ i e. h (suc i) e)

  one_copy : (ports : List ℕ) (place : ℕ) → slice_get ports place ≡ Some port → AreDifferent ports → releases_for stream port (map (copy_to stream) ports) ≡ copy_to stream port ∷ []
  one_copy [] place e d = absurd (none-some _ e)
  one_copy (p ∷ ports) zero e d =
      let same : p ≡ port = same_Some _ _ e in
      let rest = releases_for stream port (map (copy_to stream) ports) in
      ap (λ b. cond b (copy_to stream p ∷ rest) rest) (for_port p true (ap (λ n. n == port) same ∙ itself port))
      ∙ ap (λ xs. copy_to stream p ∷ xs) (no_copy ports (λ i f. let z : 0 ≡ suc i = d 0 (suc i) port e f in omega (arith, z)))
      ∙ ap (λ n. copy_to stream n ∷ []) same
  one_copy (p ∷ ports) (suc place) e d =
      let rest = releases_for stream port (map (copy_to stream) ports) in
      let other : p ≢ port = λ same. let z : 0 ≡ suc place = d 0 (suc place) port (ap Some same) e in omega (arith, z) in
      ap (λ b. cond b (copy_to stream p ∷ rest) rest) (for_port p false (not_equal p port other))
      ∙ one_copy ports place e (λ i j q a b. let z : suc i ≡ suc j = d (suc i) (suc j) q a b in omega (arith, z))

  other_copies : (other : ℕ) (ports : List ℕ) → (other == stream) ≡ false → releases_for stream port (map (copy_to other) ports) ≡ []
  other_copies other [] e = refl
  other_copies other (p ∷ ports) e =
      let rest = releases_for stream port (map (copy_to other) ports) in
      ap (λ b. cond (b && p == port) (copy_to other p ∷ rest) rest) e ∙ other_copies other ports e

no_versions : (stream port : ℕ) (packet ports : List ℕ) → releases_for stream port (map (λ p. record { shown = shown.Version p; payload = packet }) ports) ≡ []
no_versions stream port packet [] = refl
no_versions stream port packet (p ∷ ports) = no_versions stream port packet ports

-- what is told of an item for one port
abbrev pub told_for : ℕ → Item → List Release
told_for port (RefusedItem frame other refusal detail stamp) = []
told_for port (RunItem stream lost run payload) = release_of stream port payload lost run ∷ []
told_for port (VersionItem stream packet) = []

module _ (routes : List Route) (stream port : ℕ) (p : IsPortOf routes stream port) (d : AreDifferent (ports_of routes stream)) where
  run_copies : (other lost : ℕ) (run : Run) (payload : List ℕ) → releases_for stream port (map (λ q. release_of other q payload lost run) (ports_of routes other))
      ≡ cond (other == stream) (release_of other port payload lost run ∷ []) []
  run_copies other lost run payload = elim (true_or_false (other == stream)) [
    | inl same ↦
        let own : other ≡ stream = equal_to other stream same in
        ap (λ (s : ℕ). releases_for stream port (map (λ q. release_of s q payload lost run) (ports_of routes s))) own
        ∙ one_copy stream port lost run payload (ports_of routes stream) p.0 p.1 d
        ∙ sym (ap (λ b. cond b (release_of other port payload lost run ∷ []) []) same ∙ ap (λ (s : ℕ). release_of s port payload lost run ∷ []) own)
    | inr apart ↦
        other_copies stream port lost run payload other (ports_of routes other) apart
        ∙ sym (ap (λ b. cond b (release_of other port payload lost run ∷ []) []) apart)
  ]

  item_copies : (item : Item) → releases_for stream port (copies_of routes item) ≡ cond (is_run_of stream item) (told_for port item) []
  item_copies (RefusedItem frame other refusal detail stamp) = refl
  item_copies (RunItem other lost run payload) = run_copies other lost run payload
  item_copies (VersionItem other packet) = no_versions stream port packet (ports_of routes other)

  chosen : (item : Item) (rest : List Item) (b : Bool) → cond b (told_for port item) [] ++ flat_map (told_for port) rest ≡ flat_map (told_for port) (cond b (item ∷ rest) rest)
  chosen item rest true = refl
  chosen item rest false = refl

  all_copies : (items : List Item) → releases_for stream port (copies routes items) ≡ flat_map (told_for port) (runs_of_stream stream items)
  all_copies [] = refl
  all_copies (item ∷ items) =
      filter-append (λ (r : Release). is_run_for stream port r.shown) (copies_of routes item) (copies routes items)
      ∙ ap (λ rs. rs ++ releases_for stream port (copies routes items)) (item_copies item)
      ∙ ap (λ rs. cond (is_run_of stream item) (told_for port item) [] ++ rs) (all_copies items)
      ∙ chosen item (runs_of_stream stream items) (is_run_of stream item)

  out_for : (head : RecordHead) (received : List Received) → head.routes ≡ routes
      → releases_for stream port (out_of head received) ≡ flat_map (told_for port) (runs_of_stream stream (all_told head received))
  out_for head received e =
      let all = copies head.routes (all_told head received) in
      let last : List Release = record { shown = shown.End (counts_of (length received) (all_told head received)); payload = [] } ∷ [] in
      filter-append (λ (r : Release). is_run_for stream port r.shown) all last
      ∙ append-nil (releases_for stream port all)
      ∙ ap (λ rs. releases_for stream port (copies rs (all_told head received))) e
      ∙ all_copies (all_told head received)

-- ---- packets that leave

module _ (stream port : ℕ) where
  runs_in_front : (lost : ℕ) (payload : List ℕ) (runs : List Run) (parts : List Part)
      → flat_map (told_for port) (runs_from stream lost payload (map out.Run runs ++ outs_of parts))
      ≡ releases_of_runs stream port payload lost runs ++ flat_map (told_for port) (runs_told stream (outs_of parts))
  runs_in_front lost payload [] parts = ap (flat_map (told_for port)) (parts_begin stream lost payload parts)
  runs_in_front lost payload (run ∷ runs) parts = ap (λ rs. release_of stream port payload lost run ∷ rs) (runs_in_front 0 payload runs parts)

  parts_told : (parts : List Part) → flat_map (told_for port) (runs_told stream (outs_of parts)) ≡ flat_map (releases_of_part stream port) parts
  parts_told [] = refl
  parts_told (part ∷ parts) =
      runs_in_front part.lost (payload_of part.buf.bytes) part.runs parts ∙ ap (λ rs. releases_of_part stream port part ++ rs) (parts_told parts)

-- ---- all releases of a record

pub releases_true : (head : RecordHead) (second : Bool) (received : List Received) → AreRoutes second head.routes → AreTrueOf head received (out_of head received)
releases_true head second received routes stream port delivery p s =
    let listed = listed_by_port head.routes stream port p in
    let truth = outputs_are_true head.profile head.max_words delivery s.site s.delivered in
    let own : List Call = calls head stream received ++ EndCall ∷ [] in
    let same : outputs_of head.limits own ≡ outputs_of delivery.limits (all_calls delivery) =
    ap (λ l. outputs_of l own) (sym s.limits) ∙ ap (λ cs. outputs_of delivery.limits (cs ++ EndCall ∷ [])) (sym s.calls_are) in
    record {
      outs = outputs_of delivery.limits (all_calls delivery);
      are_true = truth;
      releases_are = out_for head.routes stream port p (stream_ports_differ second head.routes stream routes listed) head received refl
          ∙ ap (flat_map (told_for port)) (all_runs head second stream received routes listed ∙ ap (runs_told stream) (same ∙ truth.outs_are))
          ∙ parts_told stream port truth.parts;
    }

-- they are those of the outputs of all calls
pub told_outs : (head : RecordHead) (second : Bool) (received : List Received) (routes : AreRoutes second head.routes) (stream port : ℕ) (delivery : Delivery)
    (p : IsPortOf head.routes stream port) (s : IsStreamDelivered head received stream delivery)
    → (releases_true head second received routes stream port delivery p s).outs ≡ outputs_of delivery.limits (all_calls delivery)
unfolding releases_true
told_outs head second received routes stream port delivery p s = refl
