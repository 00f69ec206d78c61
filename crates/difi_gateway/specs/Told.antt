-- What is told of the frames of a record, before it is copied for each port.
pub use Rattle.stream_routes.specs.Ports.{is_listed}
use Rattle.std.specs.Prelude.{ℕ, ◌+◌, Bool, if◌then◌else◌, List, [], ◌∷◌, ◌++◌, length, Option, Some, None, Result, Ok, Err, bytes_eq}
use Rattle.std.specs.List.{flat_map}
use Rattle.vrt_time.specs.Time.{TimeStamp}
use Rattle.vrt_words.specs.Buffer.{Buffer}
use Rattle.vrt_fields.specs.declared.route.Route.{Route}
use Rattle.vrt_fields.specs.declared.limits.Limits.{Limits}
use Rattle.difi_context.specs.declared.context.ContextRec.{ContextRec}
use Rattle.difi_context.specs.contracts.context.ContextRecPartialEq.TheImpl as contexts
use Rattle.difi_packet.specs.Packet.{PacketValue, DataValue, ContextValue, VersionValue, ControlValue, CancelValue, AckValue}
use Rattle.replay_form.specs.declared.record_head.RecordHead.{RecordHead}
use Rattle.reorder_window.specs.Window.{answer}
use Rattle.sample_binder.specs.Calls.{Call, ContextCall, DataCall, EndCall, context_arrivals, data_arrivals, context_entry, data_entry, outcome, given_by}
use Rattle.sample_binder.specs.Parts.{payload_of}
use Rattle.sample_binder.specs.declared.out.Out.{Out}
use Rattle.sample_binder.specs.declared.out.Out.TheVariants as out
use Rattle.sample_binder.specs.declared.out.Run.{Run}
use Rattle.sample_binder.specs.declared.arrive.Turned.{Turned}
use Rattle.sample_binder.specs.declared.arrive.Turned.TheVariants as turned
use Rattle.release_form.specs.declared.refusal.Refusal.{Refusal}
use Rattle.release_form.specs.declared.refusal.Refusal.TheVariants.{TooLarge, Malformed, NoRoute, Late, Repeat, Conflict, Answer}
use Rattle.difi_gateway.specs.Contents.{Content, Larger, NoPacket, Holds, Received}
use Rattle.difi_gateway.specs.Calls.{buffer_of, calls}

-- a frame of this number and port is refused, with what shows why; samples of a stream, or a whole data packet, leave, with the
-- number lost before and the payload; or a version packet of a stream came
pub data Item : Type 0 where
  RefusedItem : (frame port : ℕ) (refusal : Refusal) (detail : ℕ) (stamp : Option TimeStamp) → Item
  RunItem : (stream lost : ℕ) (run : Run) (payload : List ℕ) → Item
  VersionItem : (stream : ℕ) (packet : List ℕ) → Item

-- ---- runs

-- the runs among outputs of a stream's binder. Behind a packet come its runs: the first one tells the number lost before it, the
-- others tell 0.
abbrev pub runs_from : ℕ → ℕ → List ℕ → List Out → List Item
runs_from stream lost payload [] = []
runs_from stream lost payload (out.Packet buf number ∷ outs) = runs_from stream number (payload_of buf.bytes) outs
runs_from stream lost payload (out.Run run ∷ outs) = RunItem stream lost run payload ∷ runs_from stream 0 payload outs

abbrev pub runs_told : ℕ → List Out → List Item
runs_told stream outs = runs_from stream 0 [] outs

-- ---- how a window answers

-- two contexts are the same packet
abbrev pub same_context : ContextRec → ContextRec → Bool
same_context a b = contexts.eq-value.it a b

abbrev pub same_buffer : Buffer → Buffer → Bool
same_buffer a b = bytes_eq a.bytes b.bytes

-- why a packet is turned away, with what it shows, where it is
abbrev pub turned_of : {R T : Type 0} → Result R (Turned × T) → Option Turned
turned_of (Ok released) = None
turned_of (Err e) = Some e.0

-- why the window of its kind turns the packet of a call away, after these calls
abbrev pub turned_away : Limits → List Call → Call → Option Turned
turned_away limits before (ContextCall rec) =
    turned_of (outcome (answer same_context limits.context_window (context_arrivals before) (context_entry rec)))
turned_away limits before (DataCall buf) =
    turned_of (outcome (answer same_buffer limits.data_window (data_arrivals before) (data_entry buf)))
turned_away limits before EndCall = None

-- ---- one frame

-- where its stream is listed
abbrev pub routed : List Route → ℕ → ℕ → ℕ → List Item → List Item
routed routes number port stream items =
    if is_listed routes stream then items else RefusedItem number port NoRoute stream None ∷ []

-- a packet is refused, or leaves what its call gives
abbrev pub bound : ℕ → ℕ → ℕ → List Out → Option Turned → List Item
bound number port stream given None = runs_told stream given
bound number port stream given (Some (turned.Late boundary)) = RefusedItem number port Late 0 (Some boundary) ∷ []
bound number port stream given (Some turned.Repeat) = RefusedItem number port Repeat 0 None ∷ []
bound number port stream given (Some (turned.Conflict count)) = RefusedItem number port Conflict count None ∷ []

abbrev pub called : Limits → ℕ → ℕ → ℕ → List Call → Call → List Item
called limits number port stream before call = bound number port stream (given_by limits before call) (turned_away limits before call)

-- what is told of a packet behind these frames
abbrev pub told_of_packet : RecordHead → List Received → ℕ → List ℕ → PacketValue → List Item
told_of_packet head before port datagram (DataValue packet) =
    routed head.routes (length before + 1) port packet.prologue.stream
    (called head.limits (length before + 1) port packet.prologue.stream (calls head packet.prologue.stream before) (DataCall (buffer_of head datagram)))
told_of_packet head before port datagram (ContextValue rec) =
    routed head.routes (length before + 1) port rec.prologue.stream
    (called head.limits (length before + 1) port rec.prologue.stream (calls head rec.prologue.stream before) (ContextCall rec))
told_of_packet head before port datagram (VersionValue rec) =
    routed head.routes (length before + 1) port rec.prologue.stream (VersionItem rec.prologue.stream datagram ∷ [])
told_of_packet head before port datagram (ControlValue packet) = RefusedItem (length before + 1) port Malformed 0 None ∷ []
told_of_packet head before port datagram (CancelValue packet) = RefusedItem (length before + 1) port Malformed 0 None ∷ []
told_of_packet head before port datagram (AckValue packet) = RefusedItem (length before + 1) port Answer 0 None ∷ []

abbrev pub told_of_content : RecordHead → List Received → ℕ → List ℕ → Content → List Item
told_of_content head before port datagram (Larger size) = RefusedItem (length before + 1) port TooLarge size None ∷ []
told_of_content head before port datagram (NoPacket word) = RefusedItem (length before + 1) port Malformed word None ∷ []
told_of_content head before port datagram (Holds packet) = told_of_packet head before port datagram packet

-- what is told of a frame behind these: the first refusal that holds, or what it gives
abbrev pub told_by : RecordHead → List Received → Received → List Item
told_by head before received = told_of_content head before received.frame.port received.frame.datagram received.content

-- ---- all frames, and the end

abbrev pub told_from : RecordHead → List Received → List Received → List Item
told_from head before [] = []
told_from head before (received ∷ later) = told_by head before received ++ told_from head (before ++ received ∷ []) later

abbrev pub told : RecordHead → List Received → List Item
told head received = told_from head [] received

-- what the end adds, route by route
abbrev pub told_at_end : RecordHead → List Received → List Item
told_at_end head received =
    flat_map (λ route. runs_told route.stream (given_by head.limits (calls head route.stream received) EndCall)) head.routes
