-- A frame as a whole: what the gateway stands for afterwards, and what is true of it then.
use Rattle.std.proofs.Common.{◌≡◌, inl, inr, ℕ, ◌==◌, ◌+◌, ◌*◌, ◌<◌, ◌≤◌, ◌^◌, false, List, [], ◌∷◌, ◌++◌, length, slice_set, Option, Some, None, refl, sym, ap, ◌∙◌, subst, arith}
use Rattle.vrt_words.specs.Words.{AreBytes}
use Rattle.vrt_words.specs.Begins.{IsDatagram, IsRefused}
use Rattle.vrt_header.specs.Profile.{PacketProfile}
use Rattle.difi_packet.specs.Packet.{PacketValue, DataValue, ContextValue, VersionValue, ControlValue, CancelValue, AckValue, IsPacket}
use Rattle.replay_form.specs.FrameFields.{Frame}
use Rattle.replay_form.specs.HeadValues.{AreHeadValues}
use Rattle.replay_form.specs.declared.record_head.RecordHead.{RecordHead}
use Rattle.std.proofs.lemmas.List.{length-set}
use Rattle.std.proofs.lemmas.Option.{slice_get_within}
use Rattle.vrt_words.specs.Buffer.{Buffer}
use Rattle.sample_binder.specs.Calls.{Call}
use Rattle.difi_gateway.specs.declared.stage.Stage.TheVariants as stages
use Rattle.sample_binder.specs.declared.arrive.Turned.{Turned}
use Rattle.sample_binder.specs.declared.arrive.Turned.TheVariants as whys
use Rattle.release_form.specs.declared.refusal.Refusal.{Refusal}
use Rattle.release_form.specs.declared.refusal.Refusal.TheVariants.{TooLarge, Malformed, NoRoute, Late, Repeat, Conflict, NotAddressed, Reused, ScheduleFull, Answer}
use Rattle.difi_gateway.specs.Contents.{Content, Larger, NoPacket, Holds, Received, IsContent}
use Rattle.difi_gateway.specs.Judged.{IsNoPacket}
use Rattle.difi_gateway.specs.Calls.{calls_by}
use Rattle.difi_gateway.specs.Isolation.{IsApart}
use Rattle.difi_gateway.specs.Told.{RefusedItem, told_by}
use Rattle.difi_gateway.specs.State.{Gated, StandsFor, IsAtRest, IsSound, IsWithin, is_ended}
use Rattle.difi_gateway.specs.Steps.{refused, refused_for, called_with, with_back, MayTake, IsTaken, IsGivenAt, IsFrameTaken}
use Rattle.difi_gateway.proofs.OneStream.{own_part_releases, own_releases}
use Rattle.difi_gateway.proofs.FrameSteps.{stands_next}
use Rattle.difi_gateway.proofs.ReadyLemmas.{may_take}
use Rattle.difi_gateway.proofs.FrameCases.{uncalled_next}
use Rattle.difi_gateway.proofs.FrameLemmas.{holding, context_stands, data_stands, version_stands}

-- a frame was taken: there is a content for which the gateway stands for one more
abbrev pub IsOneMore : Gated → Gated → Frame → Type 0
IsOneMore gate new frame =
    (head : RecordHead) (received : List Received) (given : ℕ) → StandsFor gate head received false given
    → (content : Content) × IsContent head frame.datagram content × StandsFor new head (received ++ record { frame = frame; content = content } ∷ []) false given

module _ (gate new : Gated) (rest : IsAtRest gate) (frame : Frame) (fit : AreBytes frame.datagram) where
  refused_alone : (head : RecordHead) (received : List Received) (given : ℕ) (st : StandsFor gate head received false given) (content : Content) (is : IsContent head frame.datagram content)
      (refusal : Refusal) (detail : ℕ) → told_by head received (holding frame content) ≡ RefusedItem (length received + 1) frame.port refusal detail None ∷ []
      → ((stream : ℕ) → calls_by head stream (holding frame content) ≡ []) → new ≡ refused gate frame.port (length frame.datagram) refusal detail None
      → StandsFor new head (received ++ holding frame content ∷ []) false given
  refused_alone head received given st content is refusal detail told none e =
      subst (λ g. StandsFor g head (received ++ holding frame content ∷ []) false given) (sym e)
      (stands_next gate head received given st rest (holding frame content) _ [] (uncalled_next gate head received given st rest (holding frame content) is fit refusal detail told none))

  packet_stands : (head : RecordHead) (received : List Received) (given : ℕ) → StandsFor gate head received false given → (value : PacketValue) → IsContent head frame.datagram (Holds value)
      → IsTaken value frame.port frame.datagram gate new → StandsFor new head (received ++ holding frame (Holds value) ∷ []) false given
  packet_stands head received given st (DataValue packet) is taken = data_stands gate head received given st rest frame fit packet is new taken
  packet_stands head received given st (ContextValue rec) is taken = context_stands gate head received given st rest frame fit rec is new taken
  packet_stands head received given st (VersionValue rec) is taken = version_stands gate head received given st rest frame fit rec is new taken
  packet_stands head received given st (ControlValue packet) is taken = refused_alone head received given st (Holds (ControlValue packet)) is Malformed 0 refl (λ stream. refl) taken
  packet_stands head received given st (CancelValue packet) is taken = refused_alone head received given st (Holds (CancelValue packet)) is Malformed 0 refl (λ stream. refl) taken
  packet_stands head received given st (AckValue packet) is taken = refused_alone head received given st (Holds (AckValue packet)) is Answer 0 refl (λ stream. refl) taken

  pub packet_more : (value : PacketValue) → length frame.datagram ≤ 4 * gate.max_words → IsDatagram (IsPacket gate.profile) value frame.datagram → IsTaken value frame.port frame.datagram gate new → IsOneMore gate new frame
  packet_more value fits packet taken head received given st =
      let is : IsContent head frame.datagram (Holds value) =
      (subst (λ n. length frame.datagram ≤ 4 * n) st.is_of.max_words fits, subst (λ (p : PacketProfile). IsDatagram (IsPacket p) value frame.datagram) st.is_of.profile packet) in
      (Holds value, is, packet_stands head received given st value is taken)

  pub none_more : (refusal : Refusal) (detail : ℕ) → IsNoPacket gate.profile gate.max_words frame.datagram refusal detail → new ≡ refused gate frame.port (length frame.datagram) refusal detail None
      → IsOneMore gate new frame
  none_more TooLarge detail why e head received given st =
      let is : IsContent head frame.datagram (Larger detail) = (subst (λ n. 4 * n < length frame.datagram) st.is_of.max_words why.0, why.1) in
      (Larger detail, is, refused_alone head received given st (Larger detail) is TooLarge detail refl (λ stream. refl) e)
  none_more Malformed detail why e head received given st =
      let is : IsContent head frame.datagram (NoPacket detail) =
      (subst (λ n. length frame.datagram ≤ 4 * n) st.is_of.max_words why.0, subst (λ (p : PacketProfile). IsRefused (IsPacket p) frame.datagram detail) st.is_of.profile why.1) in
      (NoPacket detail, is, refused_alone head received given st (NoPacket detail) is Malformed detail refl (λ stream. refl) e)
  none_more NoRoute detail why e head received given st = absurd why
  none_more Late detail why e head received given st = absurd why
  none_more Repeat detail why e head received given st = absurd why
  none_more Conflict detail why e head received given st = absurd why
  none_more NotAddressed detail why e head received given st = absurd why
  none_more Reused detail why e head received given st = absurd why
  none_more ScheduleFull detail why e head received given st = absurd why
  none_more Answer detail why e head received given st = absurd why

  -- what is true of every gateway stays so
  pub still_sound : IsSound gate → IsOneMore gate new frame → new.capacity ≡ gate.capacity → new.taken < 2 ^ 63 → IsWithin new.stage (length new.binders) → IsSound new
  still_sound w more capacity few within =
      let st : StandsFor gate w.head w.received false w.given = subst (λ b. StandsFor gate w.head w.received b w.given) (ap is_ended rest.stage) w.stands in
      let next = more w.head w.received w.given st in
      let now = next.2 in
      record {
        head = w.head;
        received = w.received ++ holding frame next.0 ∷ [];
        given = w.given;
        stands = subst (λ b. StandsFor new w.head (w.received ++ holding frame next.0 ∷ []) b w.given) now.ended_is now;
        buffers = omega (arith, w.buffers, st.buffers.all, now.buffers.all, capacity);
        small = few;
        drawing = within;
      }

-- ---- the memory for the buffers stays

why_keeps : (old : Gated) (port size : ℕ) (why : Turned) → (refused_for old port size why).capacity ≡ old.capacity
why_keeps old port size (whys.Late boundary) = refl
why_keeps old port size whys.Repeat = refl
why_keeps old port size (whys.Conflict count) = refl

call_keeps : (old : Gated) (port size index : ℕ) (turned : Option Turned) → (called_with old port size index turned).capacity ≡ old.capacity
call_keeps old port size index None = refl
call_keeps old port size index (Some why) = why_keeps old port size why

-- ---- the binder that gives is there

call_within : (old : Gated) (port size index : ℕ) (turned : Option Turned) → old.stage ≡ stages.Waiting → index < length old.binders
    → IsWithin (called_with old port size index turned).stage (length (called_with old port size index turned).binders)
call_within old port size index None waits lt = lt
call_within old port size index (Some (whys.Late boundary)) waits lt = subst (λ s. IsWithin s (length old.binders)) (sym waits) tt
call_within old port size index (Some whys.Repeat) waits lt = subst (λ s. IsWithin s (length old.binders)) (sym waits) tt
call_within old port size index (Some (whys.Conflict count)) waits lt = subst (λ s. IsWithin s (length old.binders)) (sym waits) tt

waiting_within : (new other : Gated) → new ≡ other → other.stage ≡ stages.Waiting → IsWithin new.stage (length new.binders)
waiting_within new other e waits = subst (λ s. IsWithin s (length new.binders)) (sym (ap (λ (g : Gated). g.stage) e ∙ waits)) tt

given_within : (call : Call) (port size stream : ℕ) (buffers : List Buffer) (turned : Option Turned) (old new : Gated) → old.stage ≡ stages.Waiting
    → IsGivenAt call port size stream buffers turned old new → IsWithin new.stage (length new.binders)
given_within call port size stream buffers turned old new waits g =
    subst (λ (n : Gated). IsWithin n.stage (length n.binders)) (sym g.after)
    (call_within (record old { binders = slice_set old.binders g.index g.now; empty = buffers }) port size g.index turned waits
    (omega (arith, slice_get_within old.binders g.index g.was g.there, length-set old.binders g.index g.now)))

pub taken_within : (value : PacketValue) (port : ℕ) (bytes : List ℕ) (old new : Gated) → old.stage ≡ stages.Waiting → IsTaken value port bytes old new → IsWithin new.stage (length new.binders)
taken_within (DataValue packet) port bytes old new waits (inl w) = waiting_within new _ w.after waits
taken_within (DataValue packet) port bytes old new waits (inr g) = given_within _ port (length bytes) _ _ g.turned old new waits g.given
taken_within (ContextValue rec) port bytes old new waits (inl w) = waiting_within new _ w.after waits
taken_within (ContextValue rec) port bytes old new waits (inr g) = given_within _ port (length bytes) _ _ g.0 old new waits g.1
taken_within (VersionValue rec) port bytes old new waits (inl w) = waiting_within new _ w.after waits
taken_within (VersionValue rec) port bytes old new waits (inr g) = waiting_within new _ g.after waits
taken_within (ControlValue packet) port bytes old new waits e = waiting_within new _ e waits
taken_within (CancelValue packet) port bytes old new waits e = waiting_within new _ e waits
taken_within (AckValue packet) port bytes old new waits e = waiting_within new _ e waits

pub refused_within : (old new : Gated) (port size : ℕ) (refusal : Refusal) (detail : ℕ) → old.stage ≡ stages.Waiting → new ≡ refused old port size refusal detail None → IsWithin new.stage (length new.binders)
refused_within old new port size refusal detail waits e = waiting_within new _ e waits

-- ---- what is counted

taken_by : (old : Gated) (port size index : ℕ) (turned : Option Turned) → (called_with old port size index turned).taken ≡ old.taken + 1 + size
taken_by old port size index None = refl
taken_by old port size index (Some (whys.Late boundary)) = refl
taken_by old port size index (Some whys.Repeat) = refl
taken_by old port size index (Some (whys.Conflict count)) = refl

pub bytes_counted : (value : PacketValue) (port : ℕ) (bytes : List ℕ) (old new : Gated) → IsTaken value port bytes old new → new.taken ≡ old.taken + 1 + length bytes
bytes_counted (DataValue packet) port bytes old new (inl w) = ap (λ (g : Gated). g.taken) w.after
bytes_counted (DataValue packet) port bytes old new (inr g) =
    ap (λ (g : Gated). g.taken) g.given.after ∙ taken_by (record old { binders = slice_set old.binders g.given.index g.given.now; empty = with_back g.front g.turned (record g.last { bytes = bytes }) }) port (length bytes) g.given.index g.turned
bytes_counted (ContextValue rec) port bytes old new (inl w) = ap (λ (g : Gated). g.taken) w.after
bytes_counted (ContextValue rec) port bytes old new (inr g) =
    ap (λ (g : Gated). g.taken) g.1.after ∙ taken_by (record old { binders = slice_set old.binders g.1.index g.1.now }) port (length bytes) g.1.index g.0
bytes_counted (VersionValue rec) port bytes old new (inl w) = ap (λ (g : Gated). g.taken) w.after
bytes_counted (VersionValue rec) port bytes old new (inr g) = ap (λ (g : Gated). g.taken) g.after
bytes_counted (ControlValue packet) port bytes old new e = ap (λ (g : Gated). g.taken) e
bytes_counted (CancelValue packet) port bytes old new e = ap (λ (g : Gated). g.taken) e
bytes_counted (AckValue packet) port bytes old new e = ap (λ (g : Gated). g.taken) e

pub taken_keeps : (value : PacketValue) (port : ℕ) (bytes : List ℕ) (old new : Gated) → IsTaken value port bytes old new → new.capacity ≡ old.capacity
taken_keeps (DataValue packet) port bytes old new (inl w) = ap (λ (g : Gated). g.capacity) w.after
taken_keeps (DataValue packet) port bytes old new (inr g) = ap (λ (g : Gated). g.capacity) g.given.after ∙ call_keeps (record old { binders = slice_set old.binders g.given.index g.given.now; empty = with_back g.front g.turned (record g.last { bytes = bytes }) }) port (length bytes) g.given.index g.turned
taken_keeps (ContextValue rec) port bytes old new (inl w) = ap (λ (g : Gated). g.capacity) w.after
taken_keeps (ContextValue rec) port bytes old new (inr g) = ap (λ (g : Gated). g.capacity) g.1.after ∙ call_keeps (record old { binders = slice_set old.binders g.1.index g.1.now }) port (length bytes) g.1.index g.0
taken_keeps (VersionValue rec) port bytes old new (inl w) = ap (λ (g : Gated). g.capacity) w.after
taken_keeps (VersionValue rec) port bytes old new (inr g) = ap (λ (g : Gated). g.capacity) g.after
taken_keeps (ControlValue packet) port bytes old new e = ap (λ (g : Gated). g.capacity) e
taken_keeps (CancelValue packet) port bytes old new e = ap (λ (g : Gated). g.capacity) e
taken_keeps (AckValue packet) port bytes old new e = ap (λ (g : Gated). g.capacity) e

pub sound_ready : (gate : Gated) (bytes : ℕ) → IsSound gate → IsAtRest gate → gate.taken + 1 + bytes < 2 ^ 63 → MayTake gate bytes
sound_ready gate bytes w rest few =
    may_take gate w.head w.received w.given (subst (λ b. StandsFor gate w.head w.received b w.given) (ap is_ended rest.stage) w.stands) rest bytes few

-- ---- a frame, whatever it is

-- it is one more, and is counted
pub record IsFrameIn (frame : Frame) (old new : Gated) : Type 0 where
  pub more : IsOneMore old new frame
  pub taken : new.taken ≡ old.taken + 1 + length frame.datagram
  pub sound : IsSound new

pub frame_in : (old new : Gated) (frame : Frame) → IsSound old → IsAtRest old → AreBytes frame.datagram → old.taken + 1 + length frame.datagram < 2 ^ 63
    → IsFrameTaken frame.port frame.datagram old new → IsFrameIn frame old new
frame_in old new frame w rest fit few (inl p) =
    let more = packet_more old new rest frame fit p.value p.fits p.packet p.taken in
    let taken = bytes_counted p.value frame.port frame.datagram old new p.taken in
    record {
      more = more;
      taken = taken;
      sound = still_sound old new rest frame fit w more (taken_keeps p.value frame.port frame.datagram old new p.taken) (omega (arith, taken, few))
          (taken_within p.value frame.port frame.datagram old new rest.stage p.taken);
    }
frame_in old new frame w rest fit few (inr p) =
    let more = none_more old new rest frame fit p.refusal p.detail p.none p.after in
    let taken : new.taken ≡ old.taken + 1 + length frame.datagram = ap (λ (g : Gated). g.taken) p.after in
    record {
      more = more;
      taken = taken;
      sound = still_sound old new rest frame fit w more (ap (λ (g : Gated). g.capacity) p.after) (omega (arith, taken, few))
          (refused_within old new frame.port (length frame.datagram) p.refusal p.detail rest.stage p.after);
    }

-- the end was not told by it
pub frame_running : (old new : Gated) (frame : Frame) → IsSound old → IsAtRest old → IsOneMore old new frame → is_ended new.stage ≡ false
frame_running old new frame w rest more =
    let st : StandsFor old w.head w.received false w.given = subst (λ b. StandsFor old w.head w.received b w.given) (ap is_ended rest.stage) w.stands in
    sym (more w.head w.received w.given st).2.ended_is

-- each stream's releases are its own
pub frame_apart : (head : RecordHead) (received : List Received) (stream : ℕ) → AreHeadValues head → IsApart head stream received
frame_apart head received stream values = record {
  so_far = own_part_releases head stream received;
  whole = own_releases head (head.form == 2) stream received values.routes;
}
