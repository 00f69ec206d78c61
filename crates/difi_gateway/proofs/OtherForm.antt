-- The form of a record changes nothing of its releases.
use Rattle.std.proofs.Common.{◌≡◌, ℕ, ◌+◌, List, [], ◌∷◌, ◌++◌, length, refl, sym, ap, ◌∙◌, subst}
use Rattle.std.specs.List.{AllByRecursion, flat_map}
use Rattle.vrt_fields.specs.declared.route.Route.{Route}
use Rattle.difi_packet.specs.Packet.{DataValue, ContextValue, VersionValue, ControlValue, CancelValue, AckValue}
use Rattle.replay_form.specs.FrameFields.{Frame}
use Rattle.replay_form.specs.declared.record_head.RecordHead.{RecordHead}
use Rattle.release_form.specs.declared.shown.Shown.TheVariants as shown
use Rattle.sample_binder.specs.Calls.{Call, ContextCall, DataCall, EndCall, given_by}
use Rattle.difi_gateway.specs.Contents.{Content, Larger, NoPacket, Holds, IsContent, Received, IsReceived, AreReceived}
use Rattle.difi_gateway.specs.Calls.{buffer_of, calls_by, calls}
use Rattle.difi_gateway.specs.Told.{Item, runs_told, routed, called, told_by, told_from, told, told_at_end}
use Rattle.difi_gateway.specs.Releases.{copies, counts_of, part_of, all_told, out_of, AreRecordsOf, IsPartOf, IsOutOf}

module _ (head : RecordHead) (form : ℕ) where
  abbrev other : RecordHead
  other = record head { form = form }

  -- ---- what frames hold

  same_content : (datagram : List ℕ) (content : Content) → IsContent head datagram content → IsContent other datagram content
  same_content datagram (Larger size) h = h
  same_content datagram (NoPacket word) h = h
  same_content datagram (Holds packet) h = h

  same_each : (received : List Received) → AllByRecursion (IsReceived head) received → AllByRecursion (IsReceived other) received
  same_each [] h = tt
  same_each (r ∷ received) h = (same_content r.frame.datagram r.content h.0, same_each received h.1)

  pub same_received : (frames : List Frame) (received : List Received) → AreReceived head frames received → AreReceived other frames received
  same_received frames received h = record { frames_are = h.frames_are; contents = same_each received h.contents }

  -- ---- what they call for

  same_call : (stream : ℕ) (frame : Frame) (content : Content)
      → calls_by other stream (record { frame = frame; content = content }) ≡ calls_by head stream (record { frame = frame; content = content })
  same_call stream frame (Larger size) = refl
  same_call stream frame (NoPacket word) = refl
  same_call stream frame (Holds (DataValue packet)) = refl
  same_call stream frame (Holds (ContextValue rec)) = refl
  same_call stream frame (Holds (VersionValue rec)) = refl
  same_call stream frame (Holds (ControlValue packet)) = refl
  same_call stream frame (Holds (CancelValue packet)) = refl
  same_call stream frame (Holds (AckValue packet)) = refl

  same_calls : (stream : ℕ) (received : List Received) → calls other stream received ≡ calls head stream received
  same_calls stream [] = refl
  same_calls stream (r ∷ received) = ap (λ cs. cs ++ calls other stream received) (same_call stream r.frame r.content) ∙ ap (λ cs. calls_by head stream r ++ cs) (same_calls stream received)

  -- ---- what is told of them

  same_by : (before : List Received) (frame : Frame) (content : Content)
      → told_by other before (record { frame = frame; content = content }) ≡ told_by head before (record { frame = frame; content = content })
  same_by before frame (Larger size) = refl
  same_by before frame (NoPacket word) = refl
  same_by before frame (Holds (DataValue packet)) =
      let n = length before + 1 in
      let s = packet.prologue.stream in
      ap (λ (cs : List Call). routed head.routes n frame.port s (called head.limits n frame.port s cs (DataCall (buffer_of head frame.datagram)))) (same_calls s before)
  same_by before frame (Holds (ContextValue rec)) =
      let n = length before + 1 in
      let s = rec.prologue.stream in
      ap (λ (cs : List Call). routed head.routes n frame.port s (called head.limits n frame.port s cs (ContextCall rec))) (same_calls s before)
  same_by before frame (Holds (VersionValue rec)) = refl
  same_by before frame (Holds (ControlValue packet)) = refl
  same_by before frame (Holds (CancelValue packet)) = refl
  same_by before frame (Holds (AckValue packet)) = refl

  same_from : (before later : List Received) → told_from other before later ≡ told_from head before later
  same_from before [] = refl
  same_from before (r ∷ later) =
      ap (λ xs. xs ++ told_from other (before ++ r ∷ []) later) (same_by before r.frame r.content) ∙ ap (λ xs. told_by head before r ++ xs) (same_from (before ++ r ∷ []) later)

  same_at_end : (received : List Received) (routes : List Route)
      → flat_map (λ (route : Route). runs_told route.stream (given_by head.limits (calls other route.stream received) EndCall)) routes
      ≡ flat_map (λ (route : Route). runs_told route.stream (given_by head.limits (calls head route.stream received) EndCall)) routes
  same_at_end received [] = refl
  same_at_end received (route ∷ routes) =
      let rest = flat_map (λ (r : Route). runs_told r.stream (given_by head.limits (calls other r.stream received) EndCall)) routes in
      ap (λ (cs : List Call). runs_told route.stream (given_by head.limits cs EndCall) ++ rest) (same_calls route.stream received)
      ∙ ap (λ xs. runs_told route.stream (given_by head.limits (calls head route.stream received) EndCall) ++ xs) (same_at_end received routes)

  same_all : (received : List Received) → all_told other received ≡ all_told head received
  same_all received =
      ap (λ xs. xs ++ told_at_end other received) (same_from [] received) ∙ ap (λ xs. told head received ++ xs) (same_at_end received head.routes)

  -- ---- releases and bytes

  pub same_part : (received : List Received) → part_of other received ≡ part_of head received
  same_part received = ap (copies head.routes) (same_from [] received)

  pub same_out : (received : List Received) → out_of other received ≡ out_of head received
  same_out received =
      ap (λ (items : List Item). copies head.routes items ++ record { shown = shown.End (counts_of (length received) items); payload = [] } ∷ []) (same_all received)

  pub same_part_bytes : (frames : List Frame) (bytes : List ℕ) → IsPartOf head frames bytes → IsPartOf other frames bytes
  same_part_bytes frames bytes h = (h.0, (same_received frames h.0 h.1.0, subst (λ rs. AreRecordsOf rs bytes) (sym (same_part h.0)) h.1.1))

  pub same_out_bytes : (frames : List Frame) (bytes : List ℕ) → IsOutOf head frames bytes → IsOutOf other frames bytes
  same_out_bytes frames bytes h = (h.0, (same_received frames h.0 h.1.0, subst (λ rs. AreRecordsOf rs bytes) (sym (same_out h.0)) h.1.1))
