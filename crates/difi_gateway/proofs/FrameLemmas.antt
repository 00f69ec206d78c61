-- What a gateway stands for after one more frame, by what its parts do.
use Rattle.std.proofs.Common.{◌≡◌, inl, inr, ℕ, ◌+◌, false, List, [], ◌∷◌, ◌++◌, ◌==◌, length, Option, Some, None, refl, sym, ap, subst, arith}
use Rattle.std.specs.List.{AllByRecursion}
use Rattle.std.proofs.lemmas.List.{length-append}
use Rattle.std.proofs.ByRecursion.{All-append}
use Rattle.vrt_words.specs.Words.{AreBytes}
use Rattle.vrt_words.specs.Buffer.{Buffer}
use Rattle.difi_context.specs.declared.context.ContextRec.{ContextRec}
use Rattle.difi_data.specs.Data.{DataPacket}
use Rattle.difi_version.specs.declared.version.VersionRec.{VersionRec}
use Rattle.difi_packet.specs.Packet.{DataValue, ContextValue, VersionValue}
use Rattle.replay_form.specs.FrameFields.{Frame}
use Rattle.replay_form.specs.declared.record_head.RecordHead.{RecordHead}
use Rattle.sample_binder.specs.Calls.{Call, ContextCall, DataCall, given_by}
use Rattle.sample_binder.specs.declared.out.Out.{Out}
use Rattle.sample_binder.specs.declared.arrive.Turned.{Turned}
use Rattle.stream_routes.specs.Ports.{IsRouteAt}
use Rattle.difi_gateway.specs.Contents.{Content, Holds, Received, IsReceived}
use Rattle.difi_gateway.specs.Calls.{buffer_of, calls}
use Rattle.difi_gateway.specs.Told.{called}
use Rattle.difi_gateway.specs.State.{Gated, StandsFor, IsAtRest, HasRoom}
use Rattle.difi_gateway.specs.Steps.{with_back, kept_by, IsContextTaken, IsDataTaken, IsVersionTaken, IsGivenAt, IsWithoutRoute}
use Rattle.difi_gateway.proofs.FrameSteps.{IsNext, stands_next}
use Rattle.difi_gateway.proofs.FrameCases.{IsPacketOf, unlisted_next, shown_next, called_next, left_by, split_all, none_either}

abbrev pub holding : Frame → Content → Received
holding frame content = record { frame = frame; content = content }

module _ (gate : Gated) (head : RecordHead) (received : List Received) (given : ℕ) (st : StandsFor gate head received false given) (rest : IsAtRest gate) (frame : Frame) (fit : AreBytes frame.datagram) where
  abbrev Stands : Content → Gated → Type 0
  Stands content new = StandsFor new head (received ++ holding frame content ∷ []) false given

  stands_by : (content : Content) (is : IsReceived head (holding frame content)) (new other : Gated) (left : List Out) → new ≡ other
      → IsNext gate head received given st rest (holding frame content) other left → Stands content new
  stands_by content is new other left e next = subst (Stands content) (sym e) (stands_next gate head received given st rest (holding frame content) other left next)

  unlisted : (content : Content) (is : IsReceived head (holding frame content)) (stream : ℕ) (new : Gated) (made : List Call) (items : _)
      → IsPacketOf head received (holding frame content) stream items made → IsWithoutRoute frame.port (length frame.datagram) stream gate new → Stands content new
  unlisted content is stream new made items packet w =
      stands_by content is new _ [] w.after
      (unlisted_next gate head received given st rest (holding frame content) is fit stream items made packet
      (λ index route. w.absent index (subst (λ routes. IsRouteAt routes stream index) (sym st.is_of.routes) route)))

  -- a packet that was given to the binder of its stream
  called_stands : (content : Content) (is : IsReceived head (holding frame content)) (stream : ℕ) (call : Call) (turned : Option Turned) (buffers : List Buffer) (new : Gated)
      → IsPacketOf head received (holding frame content) stream (called head.limits (length received + 1) frame.port stream (calls head stream received) call) (call ∷ [])
      → length buffers + kept_by call turned ≡ length gate.empty → AllByRecursion (HasRoom head.max_words) buffers
      → IsGivenAt call frame.port (length frame.datagram) stream buffers turned gate new → Stands content new
  called_stands content is stream call turned buffers new packet number rooms g =
      stands_by content is new _ (left_by turned (given_by head.limits (calls head stream received) call)) g.after
      (called_next gate head received given st rest (holding frame content) is fit call stream packet g.index (subst (λ routes. IsRouteAt routes stream g.index) st.is_of.routes g.route)
      g.was g.now g.there turned g.called buffers number rooms)

  no_buffer : (rec : ContextRec) (turned : Option Turned) → length gate.empty + kept_by (ContextCall rec) turned ≡ length gate.empty
  no_buffer rec None = omega arith
  no_buffer rec (Some why) = omega arith

  pub context_stands : (rec : ContextRec) → IsReceived head (holding frame (Holds (ContextValue rec))) → (new : Gated) → IsContextTaken rec frame.port (length frame.datagram) gate new
      → Stands (Holds (ContextValue rec)) new
  context_stands rec is new (inl w) = unlisted (Holds (ContextValue rec)) is rec.prologue.stream new (ContextCall rec ∷ []) _ (record { told_is = refl; calls_are = λ other. refl }) w
  context_stands rec is new (inr g) =
      called_stands (Holds (ContextValue rec)) is rec.prologue.stream (ContextCall rec) g.0 gate.empty new (record { told_is = refl; calls_are = λ other. refl })
      (no_buffer rec g.0) st.buffers.rooms g.1

  one_buffer : (front : List Buffer) (last buf : Buffer) (turned : Option Turned) → gate.empty ≡ front ++ last ∷ [] → length (with_back front turned buf) + kept_by (DataCall buf) turned ≡ length gate.empty
  one_buffer front last buf None e = omega (arith, ap (λ (l : List Buffer). length l) e, length-append front (last ∷ []))
  one_buffer front last buf (Some why) e = omega (arith, ap (λ (l : List Buffer). length l) e, length-append front (last ∷ []), length-append front (buf ∷ []))

  have_room : (front : List Buffer) (buf : Buffer) (turned : Option Turned) → AllByRecursion (HasRoom head.max_words) front → HasRoom head.max_words buf
      → AllByRecursion (HasRoom head.max_words) (with_back front turned buf)
  have_room front buf None rooms room = rooms
  have_room front buf (Some why) rooms room = All-append (HasRoom head.max_words) front (buf ∷ []) rooms (room, tt)

  pub data_stands : (packet : DataPacket) → IsReceived head (holding frame (Holds (DataValue packet))) → (new : Gated) → IsDataTaken packet.prologue.stream frame.datagram frame.port gate new
      → Stands (Holds (DataValue packet)) new
  data_stands packet is new (inl w) =
      unlisted (Holds (DataValue packet)) is packet.prologue.stream new (DataCall (buffer_of head frame.datagram) ∷ []) _ (record { told_is = refl; calls_are = λ other. refl }) w
  data_stands packet is new (inr g) =
      let rooms = split_all (HasRoom head.max_words) g.front g.last (subst (AllByRecursion (HasRoom head.max_words)) g.empties st.buffers.rooms) in
      let buf = buffer_of head frame.datagram in
      let same : record g.last { bytes = frame.datagram } ≡ buf = ap (λ n. record { room = n; bytes = frame.datagram }) rooms.1 in
      called_stands (Holds (DataValue packet)) is packet.prologue.stream (DataCall buf) g.turned (with_back g.front g.turned buf) new (record { told_is = refl; calls_are = λ other. refl })
      (one_buffer g.front g.last buf g.turned g.empties) (have_room g.front buf g.turned rooms.0 refl)
      (subst (λ (b : Buffer). IsGivenAt (DataCall b) frame.port (length frame.datagram) packet.prologue.stream (with_back g.front g.turned b) g.turned gate new) same g.given)

  pub version_stands : (rec : VersionRec) → IsReceived head (holding frame (Holds (VersionValue rec))) → (new : Gated) → IsVersionTaken rec.prologue.stream frame.datagram frame.port gate new
      → Stands (Holds (VersionValue rec)) new
  version_stands rec is new (inl w) =
      unlisted (Holds (VersionValue rec)) is rec.prologue.stream new [] _ (record { told_is = refl; calls_are = λ other. sym (none_either (rec.prologue.stream == other) [] refl) }) w
  version_stands rec is new (inr g) =
      stands_by (Holds (VersionValue rec)) is new _ [] g.after
      (shown_next gate head received given st rest (holding frame (Holds (VersionValue rec))) is fit rec.prologue.stream
      (record { told_is = refl; calls_are = λ other. sym (none_either (rec.prologue.stream == other) [] refl) })
      g.index (subst (λ routes. IsRouteAt routes rec.prologue.stream g.index) st.is_of.routes g.route) g.front g.last g.empties)
