-- The runs of a stream among what is told are the runs of its outputs.
use Rattle.std.proofs.Common.{◌≡◌, ◌⊎◌, ℕ, suc, ◌+◌, ◌<◌, ◌==◌, ◌||◌, Bool, true, false, cond, List, [], ◌∷◌, ◌++◌, length, get_or, Option, Some, None, Result, Ok, Err, refl, sym, ap, ◌∙◌, subst, inl, inr, arith, append_assoc}
use Rattle.std.proofs.lemmas.Bool.Decides.{nat_tests}
use Rattle.std.proofs.lemmas.Grind.{flat_map-append}
use Rattle.std.proofs.lemmas.List.{append-nil}
use Rattle.std.proofs.lemmas.List.Elements.{filter-append}
use Rattle.std.specs.List.{AllByRecursion, flat_map}
use Rattle.vrt_fields.specs.Route.{AreRoutes}
use Rattle.vrt_fields.specs.declared.route.Route.{Route}
use Rattle.vrt_fields.specs.declared.limits.Limits.{Limits}
use Rattle.difi_packet.specs.Packet.{DataValue, ContextValue, VersionValue, ControlValue, CancelValue, AckValue}
use Rattle.replay_form.specs.declared.record_head.RecordHead.{RecordHead}
use Rattle.sample_binder.specs.Calls.{Call, ContextCall, DataCall, EndCall, events_of, events_by, outputs_of, given_by, behind}
use Rattle.sample_binder.specs.Outputs.{outputs}
use Rattle.sample_binder.specs.Parts.{Part, outs_of, AreParts, AnyPart}
use Rattle.sample_binder.specs.declared.out.Out.{Out}
use Rattle.sample_binder.specs.declared.out.Out.TheVariants as out
use Rattle.sample_binder.specs.declared.arrive.Turned.{Turned}
use Rattle.sample_binder.specs.declared.arrive.Turned.TheVariants as turned
use Rattle.sample_binder.proofs.ArrivalLemmas.{behind-append}
use Rattle.sample_binder.proofs.BinderLemmas.{events_of-more}
use Rattle.sample_binder.proofs.PartLemmas.{later_packets, outputs_append}
use Rattle.sample_binder.proofs.TurnedLemmas.{context_turned, packet_turned}
use Rattle.difi_gateway.specs.Contents.{Content, Larger, NoPacket, Holds, Received}
use Rattle.difi_gateway.specs.Calls.{buffer_of, calls_by, calls}
use Rattle.difi_gateway.specs.Told.{Item, RefusedItem, RunItem, VersionItem, runs_from, runs_told, same_context, same_buffer, turned_of, turned_away, is_listed, routed, bound, called, told_by, told_from, told, told_at_end}
use Rattle.difi_gateway.specs.Releases.{all_told}
use Rattle.difi_gateway.specs.Isolation.{is_run_of, runs_of_stream}
use Rattle.replay_form.specs.FrameFields.{Frame}
use Rattle.release_form.specs.declared.refusal.Refusal.TheVariants.{NoRoute}

-- ---- tests

pub true_or_false : (b : Bool) → (b ≡ true) ⊎ (b ≡ false)
true_or_false true = inl refl
true_or_false false = inr refl

pub equal_to : (a b : ℕ) → (a == b) ≡ true → a ≡ b
equal_to a b e = grind (arith, nat_tests)

pub itself : (a : ℕ) → (a == a) ≡ true
itself a = grind (arith, nat_tests)

pub above_is_other : (a b : ℕ) → a < b → (b == a) ≡ false
above_is_other a b h = grind (arith, nat_tests)

first_false : (a b : Bool) → (a || b) ≡ false → (a ≡ false) × (b ≡ false)
first_false false b e = (refl, e)
first_false true b e = absurd (cc)

unlisted_above : (stream : ℕ) (routes : List Route) → AllByRecursion (λ (later : Route). stream < later.stream) routes → is_listed routes stream ≡ false
unlisted_above stream [] h = refl
unlisted_above stream (route ∷ routes) h = ap (λ b. b || is_listed routes stream) (above_is_other stream route.stream h.0) ∙ unlisted_above stream routes h.1

-- ---- whole packets

pub given_parts : (limits : Limits) (before : List Call) (call : Call) → AreParts AnyPart (given_by limits before call)
given_parts limits before call =
    let p = later_packets limits (events_of limits before) (events_by limits before call) in
    let all = ap (outputs limits) (events_of-more limits before call) ∙ p.1 in
    let own = outputs_of limits before in
    subst (AreParts AnyPart) (sym (ap (behind own) all ∙ behind-append own p.0)) p.2

pub parts_begin : (stream lost : ℕ) (payload : List ℕ) (parts : List Part) → runs_from stream lost payload (outs_of parts) ≡ runs_told stream (outs_of parts)
parts_begin stream lost payload [] = refl
parts_begin stream lost payload (part ∷ parts) = refl

pub runs-append : (stream lost : ℕ) (payload : List ℕ) (outs : List Out) (parts : List Part)
    → runs_from stream lost payload (outs ++ outs_of parts) ≡ runs_from stream lost payload outs ++ runs_told stream (outs_of parts)
runs-append stream lost payload [] parts = parts_begin stream lost payload parts
runs-append stream lost payload (out.Packet buf number ∷ outs) parts = runs-append stream number _ outs parts
runs-append stream lost payload (out.Run run ∷ outs) parts = ap (λ items. RunItem stream lost run payload ∷ items) (runs-append stream 0 payload outs parts)

-- a call adds the runs of what it gives
pub runs_more : (stream : ℕ) (limits : Limits) (before : List Call) (call : Call)
    → runs_told stream (outputs_of limits (before ++ call ∷ [])) ≡ runs_told stream (outputs_of limits before) ++ runs_told stream (given_by limits before call)
runs_more stream limits before call =
    let p = given_parts limits before call in
    ap (runs_told stream) (outputs_append limits before call ∙ ap (λ outs. outputs_of limits before ++ outs) p.outs_are)
    ∙ runs-append stream 0 [] (outputs_of limits before) p.parts ∙ ap (λ outs. runs_told stream (outputs_of limits before) ++ runs_told stream outs) (sym p.outs_are)

-- ---- packets that are turned away

why_turned : {R T : Type 0} (r : Result R (Turned × T)) (t : Turned) → turned_of r ≡ Some t → (why : Turned × T) × (r ≡ Err why)
why_turned (Ok released) t e = absurd (cc)
why_turned (Err why) t e = (why, refl)

-- it changes no output, then or later
pub turned_changes_nothing : (limits : Limits) (before later : List Call) (call : Call) (t : Turned) → turned_away limits before call ≡ Some t
    → outputs_of limits (before ++ call ∷ later) ≡ outputs_of limits (before ++ later)
turned_changes_nothing limits before later (ContextCall rec) t e = let w = why_turned _ t e in context_turned limits same_context before later rec w.0 w.1
turned_changes_nothing limits before later (DataCall buf) t e = let w = why_turned _ t e in packet_turned limits same_buffer before later buf w.0 w.1
turned_changes_nothing limits before later EndCall t e = absurd (cc)

turned_gives_nothing : (limits : Limits) (before : List Call) (call : Call) (t : Turned) → turned_away limits before call ≡ Some t → given_by limits before call ≡ []
turned_gives_nothing limits before call t e =
    let own = outputs_of limits before in
    let same = turned_changes_nothing limits before [] call t e ∙ ap (outputs_of limits) (append-nil before) in
    ap (behind own) (same ∙ sym (append-nil own)) ∙ behind-append own []

-- ---- the runs of one stream and of another

runs_kept : (stream lost : ℕ) (payload : List ℕ) (outs : List Out) → runs_of_stream stream (runs_from stream lost payload outs) ≡ runs_from stream lost payload outs
runs_kept stream lost payload [] = refl
runs_kept stream lost payload (out.Packet buf number ∷ outs) = runs_kept stream number _ outs
runs_kept stream lost payload (out.Run run ∷ outs) =
    let item = RunItem stream lost run payload in
    let rest = runs_from stream 0 payload outs in
    ap (λ b. cond b (item ∷ runs_of_stream stream rest) (runs_of_stream stream rest)) (itself stream) ∙ ap (λ items. item ∷ items) (runs_kept stream 0 payload outs)

runs_of_other : (stream other lost : ℕ) (payload : List ℕ) (outs : List Out) → (other == stream) ≡ false → runs_of_stream stream (runs_from other lost payload outs) ≡ []
runs_of_other stream other lost payload [] e = refl
runs_of_other stream other lost payload (out.Packet buf number ∷ outs) e = runs_of_other stream other number _ outs e
runs_of_other stream other lost payload (out.Run run ∷ outs) e =
    let item = RunItem other lost run payload in
    let rest = runs_from other 0 payload outs in
    ap (λ b. cond b (item ∷ runs_of_stream stream rest) (runs_of_stream stream rest)) e ∙ runs_of_other stream other 0 payload outs e

module _ (stream number port : ℕ) where
  bound_other : (other : ℕ) (given : List Out) (why : Option Turned) → (other == stream) ≡ false → runs_of_stream stream (bound number port other given why) ≡ []
  bound_other other given None e = runs_of_other stream other 0 [] given e
  bound_other other given (Some (turned.Late boundary)) e = refl
  bound_other other given (Some turned.Repeat) e = refl
  bound_other other given (Some (turned.Conflict count)) e = refl

  bound_own : (given : List Out) (why : Option Turned) → ((t : Turned) → why ≡ Some t → given ≡ []) → runs_of_stream stream (bound number port stream given why) ≡ runs_told stream given
  bound_own given None h = runs_kept stream 0 [] given
  bound_own given (Some (turned.Late boundary)) h = sym (ap (runs_told stream) (h (turned.Late boundary) refl))
  bound_own given (Some turned.Repeat) h = sym (ap (runs_told stream) (h turned.Repeat refl))
  bound_own given (Some (turned.Conflict count)) h = sym (ap (runs_told stream) (h (turned.Conflict count) refl))

  pub called_runs : (limits : Limits) (before : List Call) (call : Call) → runs_of_stream stream (called limits number port stream before call) ≡ runs_told stream (given_by limits before call)
  called_runs limits before call = bound_own (given_by limits before call) (turned_away limits before call) (turned_gives_nothing limits before call)

  routed_none : (listed : Bool) (refused : Item) (items : List Item) → runs_of_stream stream (refused ∷ []) ≡ [] → runs_of_stream stream items ≡ []
      → runs_of_stream stream (cond listed items (refused ∷ [])) ≡ []
  routed_none true refused items e f = f
  routed_none false refused items e f = e

-- ---- one frame

-- it calls the binder of the stream, or tells no run of it
abbrev pub CallsIt : RecordHead → ℕ → List Received → Received → Type 0
CallsIt head stream before r =
    (call : Call) × (calls_by head stream r ≡ call ∷ [])
    × (told_by head before r ≡ routed head.routes (length before + 1) r.frame.port stream (called head.limits (length before + 1) r.frame.port stream (calls head stream before) call))

abbrev pub LeavesIt : RecordHead → ℕ → List Received → Received → Type 0
LeavesIt head stream before r = (calls_by head stream r ≡ []) × (runs_of_stream stream (told_by head before r) ≡ [])

module _ (head : RecordHead) (stream : ℕ) (before : List Received) (frame : Frame) where
  abbrev holding : Content → Received
  holding content = record { frame = frame; content = content }

  abbrev frame_number : ℕ
  frame_number = length before + 1

  abbrev items_of : ℕ → Call → List Item
  items_of other call = routed head.routes frame_number frame.port other (called head.limits frame_number frame.port other (calls head other before) call)

  other_stream : (other : ℕ) (call : Call) → (other == stream) ≡ false → runs_of_stream stream (items_of other call) ≡ []
  other_stream other call e =
      let cs = calls head other before in
      routed_none stream frame_number frame.port (is_listed head.routes other) (RefusedItem frame_number frame.port NoRoute other None) (called head.limits frame_number frame.port other cs call) refl
      (bound_other stream frame_number frame.port other (given_by head.limits cs call) (turned_away head.limits cs call) e)

  one_packet : (r : Received) (other : ℕ) (call : Call) → calls_by head stream r ≡ cond (other == stream) (call ∷ []) [] → told_by head before r ≡ items_of other call → r.frame ≡ frame
      → CallsIt head stream before r ⊎ LeavesIt head stream before r
  one_packet r other call e f g = elim (true_or_false (other == stream)) [
    | inl same ↦
        inl (
          call,
          e ∙ ap (λ b. cond b (call ∷ []) []) same,
          f ∙ ap (λ s. items_of s call) (equal_to other stream same)
              ∙ ap (λ (fr : Frame). routed head.routes frame_number fr.port stream (called head.limits frame_number fr.port stream (calls head stream before) call)) (sym g),
        )
    | inr apart ↦ inr (e ∙ ap (λ b. cond b (call ∷ []) []) apart, ap (runs_of_stream stream) f ∙ other_stream other call apart)
  ]

  version_only : (other : ℕ) (packet : List ℕ) → runs_of_stream stream (routed head.routes frame_number frame.port other (VersionItem other packet ∷ [])) ≡ []
  version_only other packet =
      routed_none stream frame_number frame.port (is_listed head.routes other) (RefusedItem frame_number frame.port NoRoute other None) (VersionItem other packet ∷ []) refl refl

  by_content : (content : Content) → CallsIt head stream before (holding content) ⊎ LeavesIt head stream before (holding content)
  by_content (Larger size) = inr (refl, refl)
  by_content (NoPacket word) = inr (refl, refl)
  by_content (Holds (DataValue packet)) = one_packet (holding (Holds (DataValue packet))) packet.prologue.stream (DataCall (buffer_of head frame.datagram)) refl refl refl
  by_content (Holds (ContextValue rec)) = one_packet (holding (Holds (ContextValue rec))) rec.prologue.stream (ContextCall rec) refl refl refl
  by_content (Holds (VersionValue rec)) = inr (refl, version_only rec.prologue.stream frame.datagram)
  by_content (Holds (ControlValue packet)) = inr (refl, refl)
  by_content (Holds (CancelValue packet)) = inr (refl, refl)
  by_content (Holds (AckValue packet)) = inr (refl, refl)

pub calls_or_leaves : (head : RecordHead) (stream : ℕ) (before : List Received) (r : Received) → CallsIt head stream before r ⊎ LeavesIt head stream before r
calls_or_leaves head stream before r = by_content head stream before r.frame r.content

-- ---- all frames

pub calls-append : (head : RecordHead) (stream : ℕ) (a b : List Received) → calls head stream (a ++ b) ≡ calls head stream a ++ calls head stream b
calls-append head stream a b = flat_map-append (calls_by head stream) a b

calls-one : (head : RecordHead) (stream : ℕ) (before : List Received) (r : Received) → calls head stream (before ++ r ∷ []) ≡ calls head stream before ++ calls_by head stream r
calls-one head stream before r = calls-append head stream before (r ∷ []) ∙ ap (λ cs. calls head stream before ++ cs) (append-nil (calls_by head stream r))

module _ (head : RecordHead) (stream : ℕ) (listed : is_listed head.routes stream ≡ true) where
  -- the runs of the outputs that the calls of these frames give
  abbrev runs_so_far : List Received → List Item
  runs_so_far received = runs_told stream (outputs_of head.limits (calls head stream received))

  one_step : (before : List Received) (r : Received) → CallsIt head stream before r ⊎ LeavesIt head stream before r
      → runs_so_far (before ++ r ∷ []) ≡ runs_so_far before ++ runs_of_stream stream (told_by head before r)
  one_step before r (inl c) =
      let n = length before + 1 in
      let cs = calls head stream before in
      let items = called head.limits n r.frame.port stream cs c.0 in
      let told = c.2 ∙ ap (λ b. cond b items (RefusedItem n r.frame.port NoRoute stream None ∷ [])) listed in
      ap (λ xs. runs_told stream (outputs_of head.limits xs)) (calls-one head stream before r ∙ ap (λ more. cs ++ more) c.1)
      ∙ runs_more stream head.limits cs c.0
      ∙ ap (λ xs. runs_so_far before ++ xs) (sym (ap (runs_of_stream stream) told ∙ called_runs stream n r.frame.port head.limits cs c.0))
  one_step before r (inr l) =
      let cs = calls head stream before in
      ap (λ xs. runs_told stream (outputs_of head.limits xs)) (calls-one head stream before r ∙ ap (λ more. cs ++ more) l.0 ∙ append-nil cs)
      ∙ sym (append-nil (runs_so_far before)) ∙ ap (λ xs. runs_so_far before ++ xs) (sym l.1)

  told_runs_from : (before later : List Received) → runs_so_far (before ++ later) ≡ runs_so_far before ++ runs_of_stream stream (told_from head before later)
  told_runs_from before [] = ap runs_so_far (append-nil before) ∙ sym (append-nil (runs_so_far before))
  told_runs_from before (r ∷ later) =
      let here = before ++ r ∷ [] in
      let first = runs_of_stream stream (told_by head before r) in
      let rest = runs_of_stream stream (told_from head here later) in
      ap runs_so_far (sym (append_assoc before (r ∷ []) later))
      ∙ told_runs_from here later
      ∙ ap (λ xs. xs ++ rest) (one_step before r (calls_or_leaves head stream before r))
      ∙ append_assoc (runs_so_far before) first rest
      ∙ ap (λ xs. runs_so_far before ++ xs) (sym (filter-append (is_run_of stream) (told_by head before r) (told_from head here later)))

  -- what is told of the frames has the runs of the stream's outputs
  pub told_runs : (received : List Received) → runs_of_stream stream (told head received) ≡ runs_so_far received
  told_runs received = sym (told_runs_from [] received)

-- ---- the end

-- each stream is above those before it
abbrev pub AreRising : List Route → Type 0
AreRising [] = Unit {0}
AreRising (route ∷ routes) = AllByRecursion (λ (later : Route). route.stream < later.stream) routes × AreRising routes

abbrev RiseByPlace : List Route → Type 0
RiseByPlace routes = (k : ℕ) (other : Route) → k + 1 < length routes → (get_or routes k other).stream < (get_or routes (k + 1) other).stream

rise_behind : (route : Route) (routes : List Route) → RiseByPlace (route ∷ routes) → RiseByPlace routes
rise_behind route routes h k other lt =
    let next : suc k + 1 ≡ suc (k + 1) = omega arith in
    subst (λ n. (get_or routes k other).stream < (get_or (route ∷ routes) n other).stream) next (h (suc k) other (omega arith))

above_all : (n : ℕ) (route : Route) (routes : List Route) → n < route.stream → RiseByPlace (route ∷ routes) → AllByRecursion (λ (later : Route). n < later.stream) (route ∷ routes)
above_all n route [] lt h = (lt, tt)
above_all n route (next ∷ routes) lt h =
    let step : route.stream < next.stream = h 0 route (omega arith) in
    (lt, above_all n next routes (omega arith) (rise_behind route (next ∷ routes) h))

rising_places : (routes : List Route) → RiseByPlace routes → AreRising routes
rising_places [] h = tt
rising_places (route ∷ []) h = (tt, tt)
rising_places (route ∷ next ∷ routes) h =
    let step : route.stream < next.stream = h 0 route (omega arith) in
    (above_all route.stream next routes step (rise_behind route (next ∷ routes) h), rising_places (next ∷ routes) (rise_behind route (next ∷ routes) h))

pub routes_rise : (second : Bool) (routes : List Route) → AreRoutes second routes → AreRising routes
routes_rise second routes h = rising_places routes h.rising

module _ (head : RecordHead) (stream : ℕ) (received : List Received) where
  abbrev end_of : ℕ → List Item
  end_of other = runs_told other (given_by head.limits (calls head other received) EndCall)

  abbrev end_of_route : Route → List Item
  end_of_route route = end_of route.stream

  none_at_end : (routes : List Route) → is_listed routes stream ≡ false → runs_of_stream stream (flat_map end_of_route routes) ≡ []
  none_at_end [] e = refl
  none_at_end (route ∷ routes) e =
      let own = first_false (route.stream == stream) (is_listed routes stream) e in
      filter-append (is_run_of stream) (end_of route.stream) (flat_map end_of_route routes)
      ∙ ap (λ xs. xs ++ runs_of_stream stream (flat_map end_of_route routes)) (runs_of_other stream route.stream 0 [] (given_by head.limits (calls head route.stream received) EndCall) own.0)
      ∙ none_at_end routes own.1

  one_at_end : (routes : List Route) → AreRising routes → is_listed routes stream ≡ true → runs_of_stream stream (flat_map end_of_route routes) ≡ end_of stream
  one_at_end [] h e = absurd (cc)
  one_at_end (route ∷ routes) h e =
      let rest = runs_of_stream stream (flat_map end_of_route routes) in
      filter-append (is_run_of stream) (end_of route.stream) (flat_map end_of_route routes)
      ∙ elim (true_or_false (route.stream == stream)) [
        | inl same ↦
            let own = equal_to route.stream stream same in
            ap (λ xs. xs ++ rest) (ap (λ s. runs_of_stream stream (end_of s)) own ∙ runs_kept stream 0 [] (given_by head.limits (calls head stream received) EndCall))
            ∙ ap (λ xs. end_of stream ++ xs) (none_at_end routes (unlisted_above stream routes (subst (λ n. AllByRecursion (λ (later : Route). n < later.stream) routes) own h.0)))
            ∙ append-nil (end_of stream)
        | inr apart ↦
            ap (λ xs. xs ++ rest) (runs_of_other stream route.stream 0 [] (given_by head.limits (calls head route.stream received) EndCall) apart)
            ∙ one_at_end routes h.1 (sym (ap (λ b. b || is_listed routes stream) apart) ∙ e)
      ]

-- with the end, all that is told has the runs of the outputs with the end
pub all_runs : (head : RecordHead) (second : Bool) (stream : ℕ) (received : List Received) → AreRoutes second head.routes → is_listed head.routes stream ≡ true
    → runs_of_stream stream (all_told head received) ≡ runs_told stream (outputs_of head.limits (calls head stream received ++ EndCall ∷ []))
all_runs head second stream received h listed =
    let cs = calls head stream received in
    filter-append (is_run_of stream) (told head received) (told_at_end head received)
    ∙ ap (λ xs. xs ++ runs_of_stream stream (told_at_end head received)) (told_runs head stream listed received)
    ∙ ap (λ xs. runs_told stream (outputs_of head.limits cs) ++ xs) (one_at_end head stream received head.routes (routes_rise second head.routes h) listed)
    ∙ sym (runs_more stream head.limits cs EndCall)
