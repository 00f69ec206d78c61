-- Of each frame one refusal is told at most, or one version.
use Rattle.std.proofs.Common.{◌≡◌, ℕ, ◌+◌, ◌≤◌, Bool, true, false, cond, List, [], ◌∷◌, ◌++◌, length, Option, Some, None, refl, arith}
use Rattle.std.proofs.lemmas.List.Sums.{sum_by-cons, sum_by-append}
use Rattle.std.specs.List.{flat_map, sum_by}
use Rattle.vrt_fields.specs.declared.route.Route.{Route}
use Rattle.difi_packet.specs.Packet.{DataValue, ContextValue, VersionValue, ControlValue, CancelValue, AckValue}
use Rattle.replay_form.specs.FrameFields.{Frame}
use Rattle.replay_form.specs.declared.record_head.RecordHead.{RecordHead}
use Rattle.release_form.specs.declared.refusal.Refusal.TheVariants.{NoRoute}
use Rattle.sample_binder.specs.Calls.{ContextCall, DataCall, EndCall, given_by}
use Rattle.sample_binder.specs.Parts.{payload_of}
use Rattle.sample_binder.specs.declared.out.Out.{Out}
use Rattle.sample_binder.specs.declared.out.Out.TheVariants as out
use Rattle.sample_binder.specs.declared.arrive.Turned.{Turned}
use Rattle.sample_binder.specs.declared.arrive.Turned.TheVariants as turned
use Rattle.difi_gateway.specs.Contents.{Content, Larger, NoPacket, Holds, Received}
use Rattle.difi_gateway.specs.Calls.{buffer_of, calls}
use Rattle.difi_gateway.specs.Told.{Item, RefusedItem, RunItem, VersionItem, runs_from, runs_told, turned_away, is_listed, bound, called, told_by, told_from, told, told_at_end}
use Rattle.difi_gateway.specs.Releases.{refused_frames, versions, all_told}

abbrev once : Item → ℕ
once item = refused_frames item + versions item

two_sums : (items : List Item) → sum_by once items ≡ sum_by refused_frames items + sum_by versions items
two_sums [] = refl
two_sums (item ∷ items) = omega (arith, sum_by-cons once item items, sum_by-cons refused_frames item items, sum_by-cons versions item items, two_sums items)

no_runs : (stream lost : ℕ) (payload : List ℕ) (outs : List Out) → sum_by once (runs_from stream lost payload outs) ≡ 0
no_runs stream lost payload [] = refl
no_runs stream lost payload (out.Packet buf number ∷ outs) = no_runs stream number (payload_of buf.bytes) outs
no_runs stream lost payload (out.Run run ∷ outs) =
    omega (arith, sum_by-cons once (RunItem stream lost run payload) (runs_from stream 0 payload outs), no_runs stream 0 payload outs)

module _ (number port : ℕ) where
  bound_once : (stream : ℕ) (given : List Out) (why : Option Turned) → sum_by once (bound number port stream given why) ≤ 1
  bound_once stream given None = omega (arith, no_runs stream 0 [] given)
  bound_once stream given (Some (turned.Late boundary)) = omega arith
  bound_once stream given (Some turned.Repeat) = omega arith
  bound_once stream given (Some (turned.Conflict count)) = omega arith

  routed_once : (stream : ℕ) (items : List Item) (b : Bool) → sum_by once items ≤ 1 → sum_by once (cond b items (RefusedItem number port NoRoute stream None ∷ [])) ≤ 1
  routed_once stream items true h = h
  routed_once stream items false h = omega arith

module _ (head : RecordHead) where
  once_by : (before : List Received) (frame : Frame) (content : Content) → sum_by once (told_by head before (record { frame = frame; content = content })) ≤ 1
  once_by before frame (Larger size) = omega arith
  once_by before frame (NoPacket word) = omega arith
  once_by before frame (Holds (DataValue packet)) =
      let n = length before + 1 in
      let s = packet.prologue.stream in
      let cs = calls head s before in
      let call = DataCall (buffer_of head frame.datagram) in
      routed_once n frame.port s (called head.limits n frame.port s cs call) (is_listed head.routes s)
      (bound_once n frame.port s (given_by head.limits cs call) (turned_away head.limits cs call))
  once_by before frame (Holds (ContextValue rec)) =
      let n = length before + 1 in
      let s = rec.prologue.stream in
      let cs = calls head s before in
      let call = ContextCall rec in
      routed_once n frame.port s (called head.limits n frame.port s cs call) (is_listed head.routes s)
      (bound_once n frame.port s (given_by head.limits cs call) (turned_away head.limits cs call))
  once_by before frame (Holds (VersionValue rec)) =
      let s = rec.prologue.stream in
      let one : sum_by once (VersionItem s frame.datagram ∷ []) ≤ 1 = omega arith in
      routed_once (length before + 1) frame.port s (VersionItem s frame.datagram ∷ []) (is_listed head.routes s) one
  once_by before frame (Holds (ControlValue packet)) = omega arith
  once_by before frame (Holds (CancelValue packet)) = omega arith
  once_by before frame (Holds (AckValue packet)) = omega arith

  once_from : (before later : List Received) → sum_by once (told_from head before later) ≤ length later
  once_from before [] = omega arith
  once_from before (r ∷ later) =
      omega (
        arith,
        sum_by-append once (told_by head before r) (told_from head (before ++ r ∷ []) later),
        once_by before r.frame r.content,
        once_from (before ++ r ∷ []) later,
      )

  none_by_end : (received : List Received) (routes : List Route)
      → sum_by once (flat_map (λ (route : Route). runs_told route.stream (given_by head.limits (calls head route.stream received) EndCall)) routes) ≡ 0
  none_by_end received [] = refl
  none_by_end received (route ∷ routes) =
      let given = given_by head.limits (calls head route.stream received) EndCall in
      omega (
        arith,
        sum_by-append once (runs_told route.stream given) (flat_map (λ (r : Route). runs_told r.stream (given_by head.limits (calls head r.stream received) EndCall)) routes),
        no_runs route.stream 0 [] given,
        none_by_end received routes,
      )

  pub part_once : (received : List Received) → sum_by refused_frames (told head received) + sum_by versions (told head received) ≤ length received
  part_once received = omega (arith, once_from [] received, two_sums (told head received))

  pub whole_once : (received : List Received) → sum_by refused_frames (all_told head received) + sum_by versions (all_told head received) ≤ length received
  whole_once received =
      omega (
        arith,
        once_from [] received,
        two_sums (all_told head received),
        sum_by-append once (told head received) (told_at_end head received),
        none_by_end received head.routes,
      )
