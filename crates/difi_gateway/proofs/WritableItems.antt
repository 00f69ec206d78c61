-- All that is told can be written.
use Rattle.std.proofs.Common.{◌≡◌, ℕ, ◌+◌, ◌*◌, ◌≤◌, Bool, true, false, cond, List, [], ◌∷◌, ◌++◌, length, map, Option, Some, None, refl, sym, subst, arith, length-drop}
use Rattle.std.specs.List.{AllByRecursion, flat_map}
use Rattle.vrt_words.specs.Words.{AreBytes}
use Rattle.vrt_fields.specs.declared.route.Route.{Route}
use Rattle.difi_packet.specs.Packet.{DataValue, ContextValue, VersionValue, ControlValue, CancelValue, AckValue}
use Rattle.replay_form.specs.FrameFields.{Frame}
use Rattle.replay_form.specs.declared.record_head.RecordHead.{RecordHead}
use Rattle.release_form.specs.Refusals.{refusal_number}
use Rattle.release_form.specs.Rules.{ObeysRefused}
use Rattle.release_form.specs.declared.refusal.Refusal.{Refusal}
use Rattle.release_form.specs.declared.refusal.Refusal.TheVariants.{TooLarge, Malformed, NoRoute, Late, Repeat, Conflict, Answer}
use Rattle.release_form.specs.declared.shown.Shown.TheVariants as shown
use Rattle.sample_binder.specs.Calls.{Call, ContextCall, DataCall, EndCall, given_by}
use Rattle.sample_binder.specs.Parts.{IsCallOf, AreCallsOf, Part, outs_of, payload_of, IsWhole, AreWhole}
use Rattle.sample_binder.specs.RunRules.{HoldsRun, IsWritable}
use Rattle.sample_binder.specs.declared.out.Run.TheVariants as run
use Rattle.std.proofs.Math.Nat.{mul-le-mul_left}
use Rattle.release_form.specs.Layout.{front_of_run}
use Rattle.release_form.specs.Sizes.{run_part_size}
use Rattle.sample_binder.specs.declared.out.Out.{Out}
use Rattle.sample_binder.specs.declared.out.Out.TheVariants as out
use Rattle.sample_binder.specs.declared.out.Run.{Run}
use Rattle.sample_binder.specs.declared.arrive.Turned.{Turned}
use Rattle.sample_binder.specs.declared.arrive.Turned.TheVariants as turned
use Rattle.sample_binder.proofs.EventLemmas.{every-append}
use Rattle.sample_binder.proofs.PartLemmas.{given_whole}
use Rattle.difi_gateway.specs.Contents.{Content, Larger, NoPacket, Holds, IsContent, Received, IsReceived}
use Rattle.difi_gateway.specs.Calls.{buffer_of, calls}
use Rattle.difi_gateway.specs.Datagrams.{HoldBytes}
use Rattle.difi_gateway.specs.Told.{Item, RefusedItem, RunItem, VersionItem, runs_from, runs_told, turned_away, is_listed, bound, called, told_by, told_from, told, told_at_end}
use Rattle.difi_gateway.specs.Releases.{Release, ports_of, copies_of, copies, counts_of, all_told, out_of}
use Rattle.difi_gateway.specs.Written.{IsWritableItem, CanBeWritten}
use Rattle.difi_gateway.proofs.FitLemmas.{data_call, context_call, calls_in_grammar}
use Rattle.difi_gateway.proofs.StreamRuns.{parts_begin}

abbrev AreWritable : List Item → Type 0
AreWritable items = AllByRecursion IsWritableItem items

-- ---- runs

module _ (stream : ℕ) (payload : List ℕ) (fits : length payload + 28 ≤ 4 * 16376) where
  part_items : (runs : List Run) (lost : ℕ) (parts : List Part) → lost ≤ 15 → AllByRecursion (IsWritable (length payload)) runs → AreWritable (runs_told stream (outs_of parts))
      → AreWritable (runs_from stream lost payload (map out.Run runs ++ outs_of parts))
  part_items [] lost parts few h rest = subst AreWritable (sym (parts_begin stream lost payload parts)) rest
  part_items (run ∷ runs) lost parts few h rest = ((few, h.0, fits), part_items runs 0 parts (omega arith) h.1 rest)

parts_items : (stream : ℕ) (given : List Call) (parts : List Part) → AllByRecursion (IsWhole given) parts → AreWritable (runs_told stream (outs_of parts))
parts_items stream given [] h = tt
parts_items stream given (part ∷ parts) h =
    let fits : length (payload_of part.buf.bytes) + 28 ≤ 4 * 16376 = omega (arith, length-drop 28 part.buf.bytes, h.0.size.whole, h.0.size.least, h.0.size.most) in
    part_items stream (payload_of part.buf.bytes) fits part.runs part.lost parts h.0.lost h.0.runs (parts_items stream given parts h.1)

whole_items : (stream : ℕ) (given : List Call) (outs : List Out) → AreWhole given outs → AreWritable (runs_told stream outs)
whole_items stream given outs h = subst (λ os. AreWritable (runs_told stream os)) (sym h.outs_are) (parts_items stream given h.parts h.each)

-- ---- refusals

other_obeys : (frame : ℕ) (refusal : Refusal) → 1 ≤ frame → (refusal ≡ Late → ⊥) → ObeysRefused frame (refusal_number refusal) None
other_obeys frame refusal h other = record { counted = h; refusal = refusal; reason_is = refl; late = (λ e. absurd (cc), λ e. absurd (other e)) }

module _ (number port : ℕ) (counted : 1 ≤ number) where
  bound_items : (stream : ℕ) (given : List Out) (why : Option Turned) → AreWritable (runs_told stream given) → AreWritable (bound number port stream given why)
  bound_items stream given None h = h
  bound_items stream given (Some (turned.Late boundary)) h = (record { counted = counted; refusal = Late; reason_is = refl; late = (λ e. refl, λ e. refl) }, tt)
  bound_items stream given (Some turned.Repeat) h = (other_obeys number Repeat counted (λ e. absurd (cc)), tt)
  bound_items stream given (Some (turned.Conflict count)) h = (other_obeys number Conflict counted (λ e. absurd (cc)), tt)

  routed_items : (stream : ℕ) (items : List Item) (b : Bool) → AreWritable items → AreWritable (cond b items (RefusedItem number port NoRoute stream None ∷ []))
  routed_items stream items true h = h
  routed_items stream items false h = (other_obeys number NoRoute counted (λ e. absurd (cc)), tt)

  one_refusal : (refusal : Refusal) (detail : ℕ) → (refusal ≡ Late → ⊥) → AreWritable (RefusedItem number port refusal detail None ∷ [])
  one_refusal refusal detail other = (other_obeys number refusal counted other, tt)

-- ---- all that is told

module _ (head : RecordHead) where
  called_items : (number port stream : ℕ) (before : List Call) (call : Call) → 1 ≤ number → AreCallsOf head.profile before → IsCallOf head.profile call
      → AreWritable (called head.limits number port stream before call)
  called_items number port stream before call counted p q =
      let all = every-append (IsCallOf head.profile) before (call ∷ []) p (q, tt) in
      let given = given_by head.limits before call in
      bound_items number port counted stream given (turned_away head.limits before call) (whole_items stream (before ++ call ∷ []) given (given_whole head.profile head.limits before call all))

  items_by : (before : List Received) (frame : Frame) (content : Content) → AllByRecursion (IsReceived head) before → HoldBytes before → IsContent head frame.datagram content
      → AreBytes frame.datagram → AreWritable (told_by head before (record { frame = frame; content = content }))
  items_by before frame (Larger size) held fits h own = one_refusal (length before + 1) frame.port (omega arith) TooLarge size (λ e. absurd (cc))
  items_by before frame (NoPacket word) held fits h own = one_refusal (length before + 1) frame.port (omega arith) Malformed word (λ e. absurd (cc))
  items_by before frame (Holds (DataValue packet)) held fits h own =
      let n = length before + 1 in
      let s = packet.prologue.stream in
      let cs = calls head s before in
      let call = DataCall (buffer_of head frame.datagram) in
      routed_items n frame.port (omega arith) s (called head.limits n frame.port s cs call) (is_listed head.routes s)
      (called_items n frame.port s cs call (omega arith) (calls_in_grammar head s before held fits) (data_call head frame packet h))
  items_by before frame (Holds (ContextValue rec)) held fits h own =
      let n = length before + 1 in
      let s = rec.prologue.stream in
      let cs = calls head s before in
      routed_items n frame.port (omega arith) s (called head.limits n frame.port s cs (ContextCall rec)) (is_listed head.routes s)
      (called_items n frame.port s cs (ContextCall rec) (omega arith) (calls_in_grammar head s before held fits) (context_call head frame rec h own))
  items_by before frame (Holds (VersionValue rec)) held fits h own =
      let s = rec.prologue.stream in
      let size : length frame.datagram ≡ 44 = omega (arith, h.1.whole, h.1.packet.all) in
      routed_items (length before + 1) frame.port (omega arith) s (VersionItem s frame.datagram ∷ []) (is_listed head.routes s) (size, tt)
  items_by before frame (Holds (ControlValue packet)) held fits h own = one_refusal (length before + 1) frame.port (omega arith) Malformed 0 (λ e. absurd (cc))
  items_by before frame (Holds (CancelValue packet)) held fits h own = one_refusal (length before + 1) frame.port (omega arith) Malformed 0 (λ e. absurd (cc))
  items_by before frame (Holds (AckValue packet)) held fits h own = one_refusal (length before + 1) frame.port (omega arith) Answer 0 (λ e. absurd (cc))

  items_from : (before later : List Received) → AllByRecursion (IsReceived head) before → HoldBytes before → AllByRecursion (IsReceived head) later → HoldBytes later
      → AreWritable (told_from head before later)
  items_from before [] held fits h own = tt
  items_from before (r ∷ later) held fits h own =
      let here = before ++ r ∷ [] in
      every-append IsWritableItem (told_by head before r) (told_from head here later) (items_by before r.frame r.content held fits h.0 own.0)
      (items_from here later (every-append (IsReceived head) before (r ∷ []) held (h.0, tt)) (every-append (λ (x : Received). AreBytes x.frame.datagram) before (r ∷ []) fits (own.0, tt)) h.1 own.1)

  items_at_end : (received : List Received) (routes : List Route) → AllByRecursion (IsReceived head) received → HoldBytes received
      → AreWritable (flat_map (λ (route : Route). runs_told route.stream (given_by head.limits (calls head route.stream received) EndCall)) routes)
  items_at_end received [] h own = tt
  items_at_end received (route ∷ routes) h own =
      let cs = calls head route.stream received in
      let given = given_by head.limits cs EndCall in
      let all = every-append (IsCallOf head.profile) cs (EndCall ∷ []) (calls_in_grammar head route.stream received h own) (tt, tt) in
      every-append IsWritableItem (runs_told route.stream given) (flat_map (λ (r : Route). runs_told r.stream (given_by head.limits (calls head r.stream received) EndCall)) routes)
      (whole_items route.stream (cs ++ EndCall ∷ []) given (given_whole head.profile head.limits cs EndCall all))
      (items_at_end received routes h own)

  pub all_writable : (received : List Received) → AllByRecursion (IsReceived head) received → HoldBytes received → AllByRecursion IsWritableItem (all_told head received)
  all_writable received h own =
      every-append IsWritableItem (told head received) (told_at_end head received) (items_from [] received tt tt h own) (items_at_end received head.routes h own)

-- ---- and so can all releases

samples_fit : (bits first number payload : ℕ) → 1 ≤ number → HoldsRun bits first number payload → number ≤ payload
samples_fit bits first number payload some h =
    let eight : (first + number) * 8 ≤ (first + number) * (2 * bits) = mul-le-mul_left (first + number) (omega (arith, h.least_bits)) in
    omega (arith, eight, h.within some)

run_fits : (run : Run) (payload : ℕ) → IsWritable payload run → payload + 28 ≤ 4 * 16376 → front_of_run run + run_part_size run payload ≤ 262144
run_fits (run.Bound stamp first number moment fields bits) payload h fits = omega (arith, samples_fit bits first number payload h.obeys.indices.some h.goes)
run_fits (run.Uncertain reason stamp first number moment bits) payload h fits = omega (arith, samples_fit bits first number payload h.obeys.indices.some h.goes)
run_fits (run.Raw reason stamp pad) payload h fits = omega arith

module _ (routes : List Route) where
  run_copies : (stream lost : ℕ) (run : Run) (payload ports : List ℕ) → lost ≤ 15 → IsWritable (length payload) run → length payload + 28 ≤ 4 * 16376
      → AllByRecursion CanBeWritten (map (λ port. record { shown = shown.Run stream port lost run; payload = payload }) ports)
  run_copies stream lost run payload [] few h fits = tt
  run_copies stream lost run payload (port ∷ ports) few h fits =
      (record { obeys = (few, h.obeys); goes = h.goes; fits = run_fits run (length payload) h fits }, run_copies stream lost run payload ports few h fits)

  version_copies : (packet ports : List ℕ) → length packet ≡ 44 → AllByRecursion CanBeWritten (map (λ port. record { shown = shown.Version port; payload = packet }) ports)
  version_copies packet [] h = tt
  version_copies packet (port ∷ ports) h = (record { obeys = tt; goes = h; fits = omega (arith, h) }, version_copies packet ports h)

  item_copies : (item : Item) → IsWritableItem item → AllByRecursion CanBeWritten (copies_of routes item)
  item_copies (RefusedItem frame port refusal detail stamp) h = (record { obeys = h; goes = refl; fits = omega arith }, tt)
  item_copies (RunItem stream lost run payload) h = run_copies stream lost run payload (ports_of routes stream) h.0 h.1 h.2
  item_copies (VersionItem stream packet) h = version_copies packet (ports_of routes stream) h

  all_copies : (items : List Item) → AllByRecursion IsWritableItem items → AllByRecursion CanBeWritten (copies routes items)
  all_copies [] h = tt
  all_copies (item ∷ items) h = every-append CanBeWritten (copies_of routes item) (copies routes items) (item_copies item h.0) (all_copies items h.1)

pub out_writable : (head : RecordHead) (received : List Received) → AllByRecursion (IsReceived head) received → HoldBytes received → AllByRecursion CanBeWritten (out_of head received)
out_writable head received h own =
    let last : Release = record { shown = shown.End (counts_of (length received) (all_told head received)); payload = [] } in
    every-append CanBeWritten (copies head.routes (all_told head received)) (last ∷ []) (all_copies head.routes (all_told head received) (all_writable head received h own))
    (record { obeys = tt; goes = refl; fits = omega arith }, tt)
