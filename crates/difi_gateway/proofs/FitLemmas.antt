-- What is counted is no more than what was received.
use Rattle.std.proofs.Common.{◌≡◌, ℕ, ◌+◌, ◌<◌, ◌≤◌, ◌==◌, ◌||◌, Bool, true, false, cond, List, [], ◌∷◌, ◌++◌, length, Option, Some, None, refl, sym, ap, ◌∙◌, subst, inl, inr, arith, length-drop}
use Rattle.std.proofs.lemmas.Bool.Decides.{nat_tests}
use Rattle.std.proofs.lemmas.List.Sums.{sum_by-cons, sum_by-append}
use Rattle.std.specs.List.{AllByRecursion, flat_map, sum_by}
use Rattle.vrt_words.specs.Words.{words_of, AreBytes}
use Rattle.vrt_words.proofs.WordLaws.{words_of-words}
use Rattle.difi_gateway.specs.Datagrams.{HoldBytes}
use Rattle.vrt_fields.specs.Route.{AreRoutes}
use Rattle.vrt_fields.specs.declared.route.Route.{Route}
use Rattle.difi_context.specs.Context.{IsSpelled}
use Rattle.difi_context.specs.declared.context.ContextRec.{ContextRec}
use Rattle.difi_data.specs.Data.{DataPacket}
use Rattle.difi_packet.specs.Packet.{DataValue, ContextValue, VersionValue, ControlValue, CancelValue, AckValue}
use Rattle.replay_form.specs.FrameFields.{Frame}
use Rattle.replay_form.specs.declared.record_head.RecordHead.{RecordHead}
use Rattle.release_form.specs.declared.refusal.Refusal.TheVariants.{NoRoute}
use Rattle.sample_binder.specs.Calls.{Call, ContextCall, DataCall, EndCall, is_told, outputs_of, given_by}
use Rattle.sample_binder.specs.Given.{IsDataOf}
use Rattle.sample_binder.specs.Parts.{IsCallOf, AreCallsOf, payload_of, counted_of, counted_told, payload_bytes}
use Rattle.sample_binder.specs.declared.out.Out.{Out}
use Rattle.sample_binder.specs.declared.out.Out.TheVariants as out
use Rattle.sample_binder.specs.declared.out.Run.{Run}
use Rattle.sample_binder.specs.declared.out.Run.TheVariants as run
use Rattle.sample_binder.specs.declared.arrive.Turned.{Turned}
use Rattle.sample_binder.specs.declared.arrive.Turned.TheVariants as turned
use Rattle.sample_binder.proofs.BinderLemmas.{is_told-append}
use Rattle.sample_binder.proofs.EventLemmas.{every-append}
use Rattle.sample_binder.proofs.TotalLemmas.{counted_ending}
use Rattle.difi_gateway.specs.Contents.{Content, Larger, NoPacket, Holds, IsContent, Received, IsReceived}
use Rattle.difi_gateway.specs.Calls.{buffer_of, calls_by, calls}
use Rattle.difi_gateway.specs.Told.{Item, RefusedItem, RunItem, VersionItem, runs_from, runs_told, turned_away, is_listed, bound, called, told_by, told_from, told, told_at_end}
use Rattle.difi_gateway.specs.Releases.{bound_samples, uncertain_samples, raw_packets, all_told}
use Rattle.difi_gateway.specs.Isolation.{is_run_of, runs_of_stream}
use Rattle.difi_gateway.proofs.StreamRuns.{true_or_false, equal_to, itself, AreRising, routes_rise, all_runs}

-- ---- what frames call for

pub data_call : (head : RecordHead) (frame : Frame) (packet : DataPacket) → IsContent head frame.datagram (Holds (DataValue packet)) → IsDataOf head.profile frame.datagram
data_call head frame packet h = record { packet = packet; datagram = record { whole = h.1.whole; packet = h.1.packet } }

pub context_call : (head : RecordHead) (frame : Frame) (rec : ContextRec) → IsContent head frame.datagram (Holds (ContextValue rec)) → AreBytes frame.datagram → IsSpelled head.profile rec
context_call head frame rec h fits = record { words = words_of frame.datagram; are_words = words_of-words frame.datagram fits; packet = h.1.packet }

call_of : (head : RecordHead) (stream : ℕ) (frame : Frame) (content : Content) → IsContent head frame.datagram content → AreBytes frame.datagram
    → AreCallsOf head.profile (calls_by head stream (record { frame = frame; content = content }))
call_of head stream frame (Larger size) h fits = tt
call_of head stream frame (NoPacket word) h fits = tt
call_of head stream frame (Holds (DataValue packet)) h fits =
    let call = DataCall (buffer_of head frame.datagram) in
    let is = data_call head frame packet h in
    elim (packet.prologue.stream == stream) as (λ b. AreCallsOf head.profile (cond b (call ∷ []) [])) [ true ↦ (is, tt) | false ↦ tt ]
call_of head stream frame (Holds (ContextValue rec)) h fits =
    let is = context_call head frame rec h fits in
    elim (rec.prologue.stream == stream) as (λ b. AreCallsOf head.profile (cond b (ContextCall rec ∷ []) [])) [ true ↦ (is, tt) | false ↦ tt ]
call_of head stream frame (Holds (VersionValue rec)) h fits = tt
call_of head stream frame (Holds (ControlValue packet)) h fits = tt
call_of head stream frame (Holds (CancelValue packet)) h fits = tt
call_of head stream frame (Holds (AckValue packet)) h fits = tt

-- the calls of received frames are in the grammar
pub calls_in_grammar : (head : RecordHead) (stream : ℕ) (received : List Received) → AllByRecursion (IsReceived head) received → HoldBytes received
    → AreCallsOf head.profile (calls head stream received)
calls_in_grammar head stream [] h fits = tt
calls_in_grammar head stream (r ∷ received) h fits =
    every-append (IsCallOf head.profile) (calls_by head stream r) (calls head stream received) (call_of head stream r.frame r.content h.0 fits.0) (calls_in_grammar head stream received h.1 fits.1)

not_told_by : (head : RecordHead) (stream : ℕ) (frame : Frame) (content : Content) → is_told (calls_by head stream (record { frame = frame; content = content })) ≡ false
not_told_by head stream frame (Larger size) = refl
not_told_by head stream frame (NoPacket word) = refl
not_told_by head stream frame (Holds (DataValue packet)) =
    elim (packet.prologue.stream == stream) as (λ b. is_told (cond b (DataCall (buffer_of head frame.datagram) ∷ []) []) ≡ false) [ true ↦ refl | false ↦ refl ]
not_told_by head stream frame (Holds (ContextValue rec)) = elim (rec.prologue.stream == stream) as (λ b. is_told (cond b (ContextCall rec ∷ []) []) ≡ false) [ true ↦ refl | false ↦ refl ]
not_told_by head stream frame (Holds (VersionValue rec)) = refl
not_told_by head stream frame (Holds (ControlValue packet)) = refl
not_told_by head stream frame (Holds (CancelValue packet)) = refl
not_told_by head stream frame (Holds (AckValue packet)) = refl

-- and none of them is the end
pub calls_not_told : (head : RecordHead) (stream : ℕ) (received : List Received) → is_told (calls head stream received) ≡ false
calls_not_told head stream [] = refl
calls_not_told head stream (r ∷ received) =
    is_told-append (calls_by head stream r) (calls head stream received) ∙ ap (λ b. b || is_told (calls head stream received)) (not_told_by head stream r.frame r.content) ∙ calls_not_told head stream received

-- ---- sums

-- what an item counts: samples, and a raw packet as one
abbrev pub counted_item : Item → ℕ
counted_item item = bound_samples item + (uncertain_samples item + raw_packets item)

run_counts : (stream lost : ℕ) (run : Run) (payload : List ℕ) → counted_item (RunItem stream lost run payload) ≡ counted_of run
run_counts stream lost (run.Bound stamp first number moment fields bits) payload = omega arith
run_counts stream lost (run.Uncertain reason stamp first number moment bits) payload = omega arith
run_counts stream lost (run.Raw reason stamp pad) payload = omega arith

runs_count : (stream lost : ℕ) (payload : List ℕ) (outs : List Out) → sum_by counted_item (runs_from stream lost payload outs) ≡ counted_told outs
runs_count stream lost payload [] = refl
runs_count stream lost payload (out.Packet buf number ∷ outs) = runs_count stream number (payload_of buf.bytes) outs
runs_count stream lost payload (out.Run run ∷ outs) =
    omega (
      arith,
      sum_by-cons counted_item (RunItem stream lost run payload) (runs_from stream 0 payload outs),
      run_counts stream lost run payload,
      runs_count stream 0 payload outs,
    )

three_sums : (items : List Item) → sum_by counted_item items ≡ sum_by bound_samples items + (sum_by uncertain_samples items + sum_by raw_packets items)
three_sums [] = refl
three_sums (item ∷ items) =
    omega (
      arith,
      sum_by-cons counted_item item items,
      sum_by-cons bound_samples item items,
      sum_by-cons uncertain_samples item items,
      sum_by-cons raw_packets item items,
      three_sums items,
    )

-- a sum over the streams of routes
abbrev over : List Route → (ℕ → ℕ) → ℕ
over [] f = 0
over (route ∷ routes) f = f route.stream + over routes f

over-add : (f g : ℕ → ℕ) (routes : List Route) → over routes (λ s. f s + g s) ≡ over routes f + over routes g
over-add f g [] = refl
over-add f g (route ∷ routes) = omega (arith, over-add f g routes)

over-zero : (f : ℕ → ℕ) (routes : List Route) → ((s : ℕ) → f s ≡ 0) → over routes f ≡ 0
over-zero f [] h = refl
over-zero f (route ∷ routes) h = omega (arith, h route.stream, over-zero f routes h)

over-le : (f g : ℕ → ℕ) (routes : List Route) → AllByRecursion (λ (route : Route). f route.stream ≤ g route.stream) routes → over routes f ≤ over routes g
over-le f g [] h = omega arith
over-le f g (route ∷ routes) h = omega (arith, h.0, over-le f g routes h.1)

over-same : (f g : ℕ → ℕ) (routes : List Route) → ((s : ℕ) → f s ≡ g s) → over routes f ≡ over routes g
over-same f g [] h = refl
over-same f g (route ∷ routes) h = omega (arith, h route.stream, over-same f g routes h)

-- ---- one stream is listed once

abbrev at_stream : ℕ → ℕ → ℕ → ℕ
at_stream own n s = cond (own == s) n 0

other_above : (own s : ℕ) → own < s → (own == s) ≡ false
other_above own s h = grind (arith, nat_tests)

none_above : (own n : ℕ) (routes : List Route) → AllByRecursion (λ (route : Route). own < route.stream) routes → over routes (at_stream own n) ≡ 0
none_above own n [] h = refl
none_above own n (route ∷ routes) h =
    let here : at_stream own n route.stream ≡ 0 = ap (λ b. cond b n 0) (other_above own route.stream h.0) in
    omega (arith, here, none_above own n routes h.1)

over-once : (own n : ℕ) (routes : List Route) → AreRising routes → over routes (at_stream own n) ≤ n
over-once own n [] h = omega arith
over-once own n (route ∷ routes) h = elim (true_or_false (own == route.stream)) [
  | inl same ↦
      let here : at_stream own n route.stream ≡ n = ap (λ b. cond b n 0) same in
      let above = subst (λ m. AllByRecursion (λ (later : Route). m < later.stream) routes) (sym (equal_to own route.stream same)) h.0 in
      omega (arith, here, none_above own n routes above)
  | inr apart ↦
      let here : at_stream own n route.stream ≡ 0 = ap (λ b. cond b n 0) apart in
      omega (arith, here, over-once own n routes h.1)
]

-- ---- the bytes of all streams

payload-append : (a b : List Call) → payload_bytes (a ++ b) ≡ payload_bytes a + payload_bytes b
payload-append [] b = omega arith
payload-append (ContextCall rec ∷ a) b = payload-append a b
payload-append (DataCall buf ∷ a) b = omega (arith, payload-append a b)
payload-append (EndCall ∷ a) b = payload-append a b

no_bytes : (rec : Call) (b : Bool) → payload_bytes (rec ∷ []) ≡ 0 → payload_bytes (cond b (rec ∷ []) []) ≡ 0
no_bytes rec true e = e
no_bytes rec false e = refl

some_bytes : (call : Call) (n : ℕ) (b : Bool) → payload_bytes (call ∷ []) ≡ n → payload_bytes (cond b (call ∷ []) []) ≡ cond b n 0
some_bytes call n true e = e
some_bytes call n false e = refl

module _ (head : RecordHead) (routes : List Route) (rising : AreRising routes) where
  frame_bytes : (frame : Frame) (content : Content) → over routes (λ s. payload_bytes (calls_by head s (record { frame = frame; content = content }))) ≤ length frame.datagram
  frame_bytes frame (Larger size) = omega (arith, over-zero (λ s. 0) routes (λ s. refl))
  frame_bytes frame (NoPacket word) = omega (arith, over-zero (λ s. 0) routes (λ s. refl))
  frame_bytes frame (Holds (DataValue packet)) =
      let call = DataCall (buffer_of head frame.datagram) in
      let own = packet.prologue.stream in
      let n = length (payload_of frame.datagram) in
      let once = over-once own n routes rising in
      let one : payload_bytes (call ∷ []) ≡ n = omega arith in
      let same = over-same (λ s. payload_bytes (cond (own == s) (call ∷ []) [])) (at_stream own n) routes (λ s. some_bytes call n (own == s) one) in
      omega (arith, once, same, length-drop 28 frame.datagram)
  frame_bytes frame (Holds (ContextValue rec)) =
      let none = over-zero (λ s. payload_bytes (cond (rec.prologue.stream == s) (ContextCall rec ∷ []) [])) routes (λ s. no_bytes (ContextCall rec) (rec.prologue.stream == s) refl) in
      omega (arith, none)
  frame_bytes frame (Holds (VersionValue rec)) = omega (arith, over-zero (λ s. 0) routes (λ s. refl))
  frame_bytes frame (Holds (ControlValue packet)) = omega (arith, over-zero (λ s. 0) routes (λ s. refl))
  frame_bytes frame (Holds (CancelValue packet)) = omega (arith, over-zero (λ s. 0) routes (λ s. refl))
  frame_bytes frame (Holds (AckValue packet)) = omega (arith, over-zero (λ s. 0) routes (λ s. refl))

  -- the payloads of all streams together are no more than all that was received
  all_bytes : (received : List Received) → over routes (λ s. payload_bytes (calls head s received)) ≤ sum_by (λ (r : Received). length r.frame.datagram) received
  all_bytes [] = omega (arith, over-zero (λ s. 0) routes (λ s. refl))
  all_bytes (r ∷ received) =
      let here : ℕ → ℕ = λ s. payload_bytes (calls_by head s r) in
      let rest : ℕ → ℕ = λ s. payload_bytes (calls head s received) in
      let split = over-same (λ s. payload_bytes (calls head s (r ∷ received))) (λ s. here s + rest s) routes (λ s. payload-append (calls_by head s r) (calls head s received)) in
      omega (
        arith,
        split,
        over-add here rest routes,
        frame_bytes r.frame r.content,
        all_bytes received,
        sum_by-cons (λ (r : Received). length r.frame.datagram) r received,
      )

-- ---- each run is of a listed stream

abbrev pub IsListedItem : List Route → Item → Type 0
IsListedItem routes (RunItem stream lost run payload) = is_listed routes stream ≡ true
IsListedItem routes (RefusedItem frame port refusal detail stamp) = Unit {0}
IsListedItem routes (VersionItem stream packet) = Unit {0}

abbrev pub AreListed : List Route → List Item → Type 0
AreListed routes items = AllByRecursion (IsListedItem routes) items

listed_runs : (routes : List Route) (stream lost : ℕ) (payload : List ℕ) (outs : List Out) → is_listed routes stream ≡ true → AreListed routes (runs_from stream lost payload outs)
listed_runs routes stream lost payload [] h = tt
listed_runs routes stream lost payload (out.Packet buf number ∷ outs) h = listed_runs routes stream number (payload_of buf.bytes) outs h
listed_runs routes stream lost payload (out.Run run ∷ outs) h = (h, listed_runs routes stream 0 payload outs h)

module _ (routes : List Route) (number port : ℕ) where
  listed_bound : (stream : ℕ) (given : List Out) (why : Option Turned) → is_listed routes stream ≡ true → AreListed routes (bound number port stream given why)
  listed_bound stream given None h = listed_runs routes stream 0 [] given h
  listed_bound stream given (Some (turned.Late boundary)) h = (tt, tt)
  listed_bound stream given (Some turned.Repeat) h = (tt, tt)
  listed_bound stream given (Some (turned.Conflict count)) h = (tt, tt)

  listed_routed : (stream : ℕ) (items : List Item) (b : Bool) → is_listed routes stream ≡ b → (is_listed routes stream ≡ true → AreListed routes items)
      → AreListed routes (cond b items (RefusedItem number port NoRoute stream None ∷ []))
  listed_routed stream items true e h = h e
  listed_routed stream items false e h = (tt, tt)

module _ (head : RecordHead) where
  listed_by : (before : List Received) (frame : Frame) (content : Content) → AreListed head.routes (told_by head before (record { frame = frame; content = content }))
  listed_by before frame (Larger size) = (tt, tt)
  listed_by before frame (NoPacket word) = (tt, tt)
  listed_by before frame (Holds (DataValue packet)) =
      let s = packet.prologue.stream in
      let cs = calls head s before in
      let call = DataCall (buffer_of head frame.datagram) in
      listed_routed head.routes (length before + 1) frame.port s (called head.limits (length before + 1) frame.port s cs call) (is_listed head.routes s) refl
      (listed_bound head.routes (length before + 1) frame.port s (given_by head.limits cs call) (turned_away head.limits cs call))
  listed_by before frame (Holds (ContextValue rec)) =
      let s = rec.prologue.stream in
      let cs = calls head s before in
      listed_routed head.routes (length before + 1) frame.port s (called head.limits (length before + 1) frame.port s cs (ContextCall rec)) (is_listed head.routes s) refl
      (listed_bound head.routes (length before + 1) frame.port s (given_by head.limits cs (ContextCall rec)) (turned_away head.limits cs (ContextCall rec)))
  listed_by before frame (Holds (VersionValue rec)) =
      let s = rec.prologue.stream in
      listed_routed head.routes (length before + 1) frame.port s (VersionItem s frame.datagram ∷ []) (is_listed head.routes s) refl (λ e. (tt, tt))
  listed_by before frame (Holds (ControlValue packet)) = (tt, tt)
  listed_by before frame (Holds (CancelValue packet)) = (tt, tt)
  listed_by before frame (Holds (AckValue packet)) = (tt, tt)

  listed_from : (before later : List Received) → AreListed head.routes (told_from head before later)
  listed_from before [] = tt
  listed_from before (r ∷ later) =
      every-append (IsListedItem head.routes) (told_by head before r) (told_from head (before ++ r ∷ []) later) (listed_by before r.frame r.content) (listed_from (before ++ r ∷ []) later)

  listed_end : (received : List Received) (routes : List Route) → AllByRecursion (λ (route : Route). is_listed head.routes route.stream ≡ true) routes
      → AreListed head.routes (flat_map (λ (route : Route). runs_told route.stream (given_by head.limits (calls head route.stream received) EndCall)) routes)
  listed_end received [] h = tt
  listed_end received (route ∷ routes) h =
      every-append (IsListedItem head.routes) (runs_told route.stream (given_by head.limits (calls head route.stream received) EndCall)) _
      (listed_runs head.routes route.stream 0 [] (given_by head.limits (calls head route.stream received) EndCall) h.0) (listed_end received routes h.1)

one_more_listed : (route : Route) (routes others : List Route) → AllByRecursion (λ (r : Route). is_listed routes r.stream ≡ true) others
    → AllByRecursion (λ (r : Route). is_listed (route ∷ routes) r.stream ≡ true) others
one_more_listed route routes [] h = tt
one_more_listed route routes (r ∷ others) h = (or_right (route.stream == r.stream) (is_listed routes r.stream) h.0, one_more_listed route routes others h.1)
  where
    or_right : (a b : Bool) → b ≡ true → (a || b) ≡ true
    or_right true b e = refl
    or_right false b e = e

pub each_listed : (routes : List Route) → AllByRecursion (λ (r : Route). is_listed routes r.stream ≡ true) routes
each_listed [] = tt
each_listed (route ∷ routes) = (ap (λ b. b || is_listed routes route.stream) (itself route.stream), one_more_listed route routes routes (each_listed routes))

pub listed_told : (head : RecordHead) (received : List Received) → AreListed head.routes (told head received)
listed_told head received = listed_from head [] received

pub all_listed : (head : RecordHead) (received : List Received) → AreListed head.routes (all_told head received)
all_listed head received =
    every-append (IsListedItem head.routes) (told head received) (told_at_end head received) (listed_from head [] received) (listed_end head received head.routes (each_listed head.routes))

-- ---- so all items are those of the streams

abbrev own_count : Item → ℕ → ℕ
own_count item s = cond (is_run_of s item) (counted_item item) 0

turned_around : (a b : ℕ) → (a == b) ≡ true → (b == a) ≡ true
turned_around a b e = grind (arith, nat_tests)

run_own : (routes : List Route) (stream n : ℕ) → is_listed routes stream ≡ true → n ≤ over routes (λ s. cond (stream == s) n 0)
run_own [] stream n h = absurd (cc)
run_own (route ∷ routes) stream n h = elim (true_or_false (route.stream == stream)) [
  | inl same ↦ let here : cond (stream == route.stream) n 0 ≡ n = ap (λ b. cond b n 0) (turned_around route.stream stream same) in omega (arith, here)
  | inr apart ↦ omega (arith, run_own routes stream n (sym (ap (λ b. b || is_listed routes stream) apart) ∙ h))
]

item_own : (routes : List Route) (item : Item) → IsListedItem routes item → counted_item item ≤ over routes (own_count item)
item_own routes (RunItem stream lost run payload) h = run_own routes stream (counted_item (RunItem stream lost run payload)) h
item_own routes (RefusedItem frame port refusal detail stamp) h = omega arith
item_own routes (VersionItem stream packet) h = omega arith

chosen_sum : (item : Item) (xs : List Item) (b : Bool) → sum_by counted_item (cond b (item ∷ xs) xs) ≡ cond b (counted_item item) 0 + sum_by counted_item xs
chosen_sum item xs true = sum_by-cons counted_item item xs
chosen_sum item xs false = omega arith

streams_sum : (routes : List Route) (items : List Item) → AreListed routes items → sum_by counted_item items ≤ over routes (λ s. sum_by counted_item (runs_of_stream s items))
streams_sum routes [] h = omega arith
streams_sum routes (item ∷ items) h =
    let rest : ℕ → ℕ = λ s. sum_by counted_item (runs_of_stream s items) in
    let split = over-same (λ s. sum_by counted_item (runs_of_stream s (item ∷ items))) (λ s. own_count item s + rest s) routes (λ s. chosen_sum item (runs_of_stream s items) (is_run_of s item)) in
    omega (
      arith,
      split,
      over-add (own_count item) rest routes,
      item_own routes item h.0,
      streams_sum routes items h.1,
      sum_by-cons counted_item item items,
    )

-- ---- what is told counts no more than the bytes received

module _ (head : RecordHead) (second : Bool) (received : List Received) (routes : AreRoutes second head.routes) (held : AllByRecursion (IsReceived head) received) (fits : HoldBytes received) where
  one_stream : (stream : ℕ) → is_listed head.routes stream ≡ true → sum_by counted_item (runs_of_stream stream (all_told head received)) ≤ payload_bytes (calls head stream received)
  one_stream stream listed =
      let cs = calls head stream received in
      omega (
        arith,
        ap (sum_by counted_item) (all_runs head second stream received routes listed),
        runs_count stream 0 [] (outputs_of head.limits (cs ++ EndCall ∷ [])),
        counted_ending head.profile head.limits cs (calls_in_grammar head stream received held fits) (calls_not_told head stream received),
      )

  each_stream : (rs : List Route) → AllByRecursion (λ (r : Route). is_listed head.routes r.stream ≡ true) rs
      → AllByRecursion (λ (r : Route). sum_by counted_item (runs_of_stream r.stream (all_told head received)) ≤ payload_bytes (calls head r.stream received)) rs
  each_stream [] h = tt
  each_stream (r ∷ rs) h = (one_stream r.stream h.0, each_stream rs h.1)

  counted_fit : sum_by counted_item (all_told head received) ≤ sum_by (λ (r : Received). length r.frame.datagram) received
  counted_fit =
      omega (
        arith,
        streams_sum head.routes (all_told head received) (all_listed head received),
        over-le (λ s. sum_by counted_item (runs_of_stream s (all_told head received))) (λ s. payload_bytes (calls head s received)) head.routes (each_stream head.routes (each_listed head.routes)),
        all_bytes head head.routes (routes_rise second head.routes routes) received,
      )

  pub whole_fit : sum_by bound_samples (all_told head received) + sum_by uncertain_samples (all_told head received) + sum_by raw_packets (all_told head received)
      ≤ sum_by (λ (r : Received). length r.frame.datagram) received
  whole_fit = omega (arith, counted_fit, three_sums (all_told head received))

  pub part_fit : sum_by bound_samples (told head received) + sum_by uncertain_samples (told head received) + sum_by raw_packets (told head received)
      ≤ sum_by (λ (r : Received). length r.frame.datagram) received
  part_fit = omega (arith, counted_fit, three_sums (told head received), sum_by-append counted_item (told head received) (told_at_end head received))
