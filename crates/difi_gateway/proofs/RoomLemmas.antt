-- A buffer that a binder gives has room for the longest packet.
use Rattle.std.proofs.Common.{◌≡◌, ℕ, zero, suc, Bool, true, false, ◌==◌, cond, List, [], ◌∷◌, ◌++◌, map, slice_get, Some, refl, subst}
use Rattle.std.specs.List.{AllByRecursion}
use Rattle.std.proofs.lemmas.Option.{none-some}
use Rattle.vrt_words.specs.Buffer.{Buffer}
use Rattle.difi_packet.specs.Packet.{DataValue, ContextValue, VersionValue, ControlValue, CancelValue, AckValue}
use Rattle.replay_form.specs.FrameFields.{Frame}
use Rattle.replay_form.specs.declared.record_head.RecordHead.{RecordHead}
use Rattle.sample_binder.specs.Calls.{Call, ContextCall, DataCall, EndCall, outputs_of}
use Rattle.sample_binder.specs.Parts.{IsCallOf, AreCallsOf, Part, outs_of, IsWhole, IsGivenIn}
use Rattle.sample_binder.specs.declared.out.Out.{Out}
use Rattle.sample_binder.specs.declared.out.Out.TheVariants as out
use Rattle.sample_binder.specs.declared.out.Run.{Run}
use Rattle.sample_binder.proofs.EventLemmas.{every-append}
use Rattle.sample_binder.proofs.PartLemmas.{outputs_whole}
use Rattle.difi_gateway.specs.Calls.{buffer_of, calls_by, calls}
use Rattle.difi_gateway.specs.Contents.{Content, Larger, NoPacket, Holds, Received, IsReceived}
use Rattle.difi_gateway.specs.Datagrams.{HoldBytes}
use Rattle.difi_gateway.specs.State.{HasRoom, calls_with}
use Rattle.difi_gateway.proofs.FitLemmas.{calls_in_grammar}

-- ---- calls

abbrev CallHasRoom : ℕ → Call → Type 0
CallHasRoom max_words (ContextCall rec) = Unit {0}
CallHasRoom max_words (DataCall buf) = HasRoom max_words buf
CallHasRoom max_words EndCall = Unit {0}

rooms_by : (head : RecordHead) (stream : ℕ) (frame : Frame) (content : Content)
    → AllByRecursion (CallHasRoom head.max_words) (calls_by head stream (record { frame = frame; content = content }))
rooms_by head stream frame (Larger size) = tt
rooms_by head stream frame (NoPacket word) = tt
rooms_by head stream frame (Holds (DataValue packet)) =
    elim (packet.prologue.stream == stream) as (λ b. AllByRecursion (CallHasRoom head.max_words) (cond b (DataCall (buffer_of head frame.datagram) ∷ []) [])) [ true ↦ (refl, tt) | false ↦ tt ]
rooms_by head stream frame (Holds (ContextValue rec)) =
    elim (rec.prologue.stream == stream) as (λ b. AllByRecursion (CallHasRoom head.max_words) (cond b (ContextCall rec ∷ []) [])) [ true ↦ (tt, tt) | false ↦ tt ]
rooms_by head stream frame (Holds (VersionValue rec)) = tt
rooms_by head stream frame (Holds (ControlValue packet)) = tt
rooms_by head stream frame (Holds (CancelValue packet)) = tt
rooms_by head stream frame (Holds (AckValue packet)) = tt

rooms_in : (head : RecordHead) (stream : ℕ) (received : List Received) → AllByRecursion (CallHasRoom head.max_words) (calls head stream received)
rooms_in head stream [] = tt
rooms_in head stream (r ∷ received) =
    every-append (CallHasRoom head.max_words) (calls_by head stream r) (calls head stream received) (rooms_by head stream r.frame r.content) (rooms_in head stream received)

rooms_with : (max_words : ℕ) (told : Bool) (calls : List Call) → AllByRecursion (CallHasRoom max_words) calls → AllByRecursion (CallHasRoom max_words) (calls_with told calls)
rooms_with max_words false calls h = h
rooms_with max_words true calls h = every-append (CallHasRoom max_words) calls (EndCall ∷ []) h (tt, tt)

grammar_with : (head : RecordHead) (told : Bool) (calls : List Call) → AreCallsOf head.profile calls → AreCallsOf head.profile (calls_with told calls)
grammar_with head false calls h = h
grammar_with head true calls h = every-append (IsCallOf head.profile) calls (EndCall ∷ []) h (tt, tt)

room_there : (max_words : ℕ) (before later : List Call) (buf : Buffer) → AllByRecursion (CallHasRoom max_words) (before ++ DataCall buf ∷ later) → HasRoom max_words buf
room_there max_words [] later buf h = h.0
room_there max_words (call ∷ before) later buf h = room_there max_words before later buf h.1

-- ---- outputs

behind_runs : (runs : List Run) (more : List Out) (buf : Buffer) (lost j : ℕ) → slice_get (map out.Run runs ++ more) j ≡ Some (out.Packet buf lost)
    → (k : ℕ) × (slice_get more k ≡ Some (out.Packet buf lost))
behind_runs [] more buf lost j e = (j, e)
behind_runs (r ∷ runs) more buf lost zero e = absurd (cc)
behind_runs (r ∷ runs) more buf lost (suc j) e = behind_runs runs more buf lost j e

part_given : (cs : List Call) (parts : List Part) (buf : Buffer) (lost i : ℕ) → AllByRecursion (IsWhole cs) parts → slice_get (outs_of parts) i ≡ Some (out.Packet buf lost) → IsGivenIn cs buf
part_given cs [] buf lost i h e = absurd (none-some _ e)
part_given cs (part ∷ parts) buf lost zero h e =
    let same : part.buf ≡ buf = cc in
    subst (IsGivenIn cs) same h.0.given
part_given cs (part ∷ parts) buf lost (suc i) h e =
    let next = behind_runs part.runs (outs_of parts) buf lost i e in
    part_given cs parts buf lost next.0 h.1 next.1

pub given_room : (head : RecordHead) (stream : ℕ) (received : List Received) (told : Bool) (buf : Buffer) (lost i : ℕ) → AllByRecursion (IsReceived head) received → HoldBytes received
    → slice_get (outputs_of head.limits (calls_with told (calls head stream received))) i ≡ Some (out.Packet buf lost) → HasRoom head.max_words buf
given_room head stream received told buf lost i held fits e =
    let cs = calls_with told (calls head stream received) in
    let whole = outputs_whole head.profile head.limits cs (grammar_with head told (calls head stream received) (calls_in_grammar head stream received held fits)) in
    let is = part_given cs whole.parts buf lost i whole.each (subst (λ (os : List Out). slice_get os i ≡ Some (out.Packet buf lost)) whole.outs_are e) in
    room_there head.max_words is.before is.later buf
    (subst (AllByRecursion (CallHasRoom head.max_words)) is.there (rooms_with head.max_words told (calls head stream received) (rooms_in head stream received)))
