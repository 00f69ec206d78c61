-- What a gateway does in one call.
use Rattle.std.specs.Prelude.{◌≡◌, ◌⊎◌, ℕ, ◌+◌, ◌*◌, ◌<◌, ◌≤◌, ◌^◌, false, Result, Ok, Err, List, [], ◌∷◌, ◌++◌, length, slice_get, slice_index, slice_set, vec_capacity, Option, Some, None, IfSome}
use Rattle.std.specs.List.{AllByRecursion}
use Rattle.vrt_words.specs.Begins.{IsDatagram}
use Rattle.vrt_words.specs.Buffer.{Buffer}
use Rattle.difi_context.specs.declared.context.ContextRec.{ContextRec}
use Rattle.vrt_time.specs.Time.{TimeStamp}
use Rattle.difi_packet.specs.Packet.{PacketValue, DataValue, ContextValue, VersionValue, ControlValue, CancelValue, AckValue, IsPacket}
use Rattle.sample_binder.specs.Binder as binder
use Rattle.sample_binder.specs.Binder.{BinderState, number_kept}
use Rattle.sample_binder.specs.Calls.{Call, ContextCall, DataCall}
use Rattle.sample_binder.specs.Queue.{owed}
use Rattle.sample_binder.specs.declared.arrive.Turned.{Turned}
use Rattle.sample_binder.specs.declared.arrive.Turned.TheVariants as turned
use Rattle.release_form.specs.declared.refusal.Refusal.{Refusal}
use Rattle.release_form.specs.declared.refusal.Refusal.TheVariants.{Malformed, NoRoute, Late, Repeat, Conflict, Answer}
use Rattle.stream_routes.specs.Ports.{IsRouteAt}
use Rattle.difi_gateway.specs.Judged.{IsNoPacket}
use Rattle.difi_gateway.specs.Told.{turned_away}
use Rattle.difi_gateway.specs.State.{Gated, HasRoom, IsKeptFew}
use Rattle.difi_gateway.specs.declared.parts.Parts.{Parts}
use Rattle.difi_gateway.specs.Telling as telling
use Rattle.difi_gateway.specs.Telling.{told_now}
use Rattle.difi_gateway.specs.declared.stage.Stage.TheVariants as stages

-- what a contract sees of what a gateway is made of
abbrev pub gated : Parts → Gated
gated parts = record {
  profile = parts.profile;
  max_words = parts.max_words;
  routes = parts.routes;
  binders = parts.binders.items;
  empty = parts.empty.items;
  capacity = vec_capacity parts.empty;
  counts = parts.counts;
  taken = parts.taken;
  telling = told_now parts.run parts.telling;
  place = parts.place;
  lost = parts.lost;
  stage = parts.stage;
}

-- ---- counts: frames, bound samples, uncertain samples, raw packets, refused frames, acknowledgements, versions

-- so many more at one of the places
abbrev pub more : ℕ → ℕ → List ℕ → List ℕ
more place number counts = slice_set counts place (slice_index counts place + number)

-- ---- one frame

-- a frame of so many bytes is refused
abbrev pub refused : Gated → (port size : ℕ) → Refusal → (detail : ℕ) → Option TimeStamp → Gated
refused old port size refusal detail stamp = record old {
  counts = more 4 1 (more 0 1 old.counts);
  taken = old.taken + 1 + size;
  telling = telling.Refused (slice_index old.counts 0 + 1) port refusal detail stamp;
  place = 0;
}

-- a frame of so many bytes is refused, with what turned its packet away
abbrev pub refused_for : Gated → (port size : ℕ) → Turned → Gated
refused_for old port size (turned.Late boundary) = refused old port size Late 0 (Some boundary)
refused_for old port size turned.Repeat = refused old port size Repeat 0 None
refused_for old port size (turned.Conflict count) = refused old port size Conflict count None

-- ---- a packet that is given to a binder

-- nothing is owed, and the end was not told
pub record IsReadyBinder (bound : BinderState) : Type 0 where
  pub nothing : owed bound.state ≡ []
  pub untold : bound.told ≡ false
  pub few : bound.given < 2 ^ 63

-- why it was turned away, if it was
abbrev pub turned_in : Result (Unit {0}) Turned → Option Turned
turned_in (Ok done) = None
turned_in (Err why) = Some why

abbrev pub turned_with : Result (Unit {0}) (Turned × Buffer) → Option Turned
turned_with (Ok done) = None
turned_with (Err why) = Some why.0

-- one more data packet is kept
abbrev pub kept_by : Call → Option Turned → ℕ
kept_by (DataCall buf) None = 1
kept_by call turned = 0

-- the packet of a call was taken, or was turned away
pub record IsCalled (call : Call) (turned : Option Turned) (old new : BinderState) : Type 0 where
  pub same : binder.SameBinder old new
  pub stands : (calls : List Call) (taken : ℕ) → binder.StandsFor old calls taken → binder.StandsFor new (calls ++ call ∷ []) taken
  pub answer : (calls : List Call) (taken : ℕ) → binder.StandsFor old calls taken → turned ≡ turned_away old.limits calls call
  pub count : new.given ≤ old.given + 1
  pub kept : number_kept new ≡ number_kept old + kept_by call turned
  pub few : IsKeptFew old → IsKeptFew new
  pub unchanged : IfSome turned (λ why. new ≡ old)

-- the packet of a frame of so many bytes was taken by the binder of this route, which gives what is due now
abbrev pub drawing : Gated → (size index : ℕ) → Gated
drawing old size index = record old {
  counts = more 0 1 old.counts;
  taken = old.taken + 1 + size;
  place = 0;
  lost = 0;
  stage = stages.Drawing index;
}

abbrev pub called_with : Gated → (port size index : ℕ) → Option Turned → Gated
called_with old port size index None = drawing old size index
called_with old port size index (Some why) = refused_for old port size why

-- the call of a frame was made at the binder of the route of its stream
pub record IsGivenAt (call : Call) (port size stream : ℕ) (buffers : List Buffer) (turned : Option Turned) (old new : Gated) : Type 0 where
  pub index : ℕ
  pub route : IsRouteAt old.routes stream index
  pub was : BinderState
  pub there : slice_get old.binders index ≡ Some was
  pub now : BinderState
  pub called : IsCalled call turned was now
  pub after : new ≡ called_with (record old { binders = slice_set old.binders index now; empty = buffers }) port size index turned

-- its stream has no route
pub record IsWithoutRoute (port size stream : ℕ) (old new : Gated) : Type 0 where
  pub absent : (index : ℕ) → ¬ IsRouteAt old.routes stream index
  pub after : new ≡ refused old port size NoRoute stream None

-- a context was taken or refused
abbrev pub IsContextTaken : ContextRec → (port size : ℕ) → Gated → Gated → Type 0
IsContextTaken rec port size old new =
    IsWithoutRoute port size rec.prologue.stream old new
    ⊎ ((turned : Option Turned) × IsGivenAt (ContextCall rec) port size rec.prologue.stream old.empty turned old new)

-- the buffer of a data packet that was turned away is empty again
abbrev pub with_back : List Buffer → Option Turned → Buffer → List Buffer
with_back buffers None buf = buffers
with_back buffers (Some why) buf = buffers ++ buf ∷ []

-- a data packet was taken in the last of the empty buffers, or was turned away
pub record IsDataGiven (stream : ℕ) (bytes : List ℕ) (port : ℕ) (old new : Gated) : Type 0 where
  pub front : List Buffer
  pub last : Buffer
  pub empties : old.empty ≡ front ++ last ∷ []
  pub turned : Option Turned
  pub given : IsGivenAt (DataCall (record last { bytes = bytes })) port (length bytes) stream (with_back front turned (record last { bytes = bytes })) turned old new

abbrev pub IsDataTaken : ℕ → List ℕ → (port : ℕ) → Gated → Gated → Type 0
IsDataTaken stream bytes port old new = IsWithoutRoute port (length bytes) stream old new ⊎ IsDataGiven stream bytes port old new

-- a version packet is shown
abbrev pub shown_at : Gated → (index : ℕ) → List Buffer → List ℕ → Gated
shown_at old index buffers bytes = record old {
  counts = more 6 1 (more 0 1 old.counts);
  taken = old.taken + 1 + length bytes;
  empty = buffers;
  telling = telling.Version index;
  place = 0;
}

pub record IsShown (stream : ℕ) (bytes : List ℕ) (old new : Gated) : Type 0 where
  pub index : ℕ
  pub route : IsRouteAt old.routes stream index
  pub front : List Buffer
  pub last : Buffer
  pub empties : old.empty ≡ front ++ last ∷ []
  pub after : new ≡ shown_at old index (front ++ record last { bytes = bytes } ∷ []) bytes

abbrev pub IsVersionTaken : ℕ → List ℕ → (port : ℕ) → Gated → Gated → Type 0
IsVersionTaken stream bytes port old new = IsWithoutRoute port (length bytes) stream old new ⊎ IsShown stream bytes old new

-- ---- what a gateway is ready for

-- every binder is ready, there is one for each route, an empty buffer with room for so many bytes, and the counts can go on
pub record MayTake (gate : Gated) (size : ℕ) : Type 0 where
  pub all : length gate.binders ≡ length gate.routes
  pub each : (k : ℕ) (bound : BinderState) → slice_get gate.binders k ≡ Some bound → IsReadyBinder bound × (bound.profile ≡ gate.profile)
  pub some : 0 < length gate.empty
  pub rooms : AllByRecursion (HasRoom gate.max_words) gate.empty
  pub few : gate.taken + 1 + size < 2 ^ 63
  pub frames : slice_index gate.counts 0 < 2 ^ 63
  pub refusals : slice_index gate.counts 4 < 2 ^ 63
  pub versions : slice_index gate.counts 6 < 2 ^ 63

-- a packet was taken, or refused
abbrev pub IsTaken : PacketValue → (port : ℕ) → List ℕ → Gated → Gated → Type 0
IsTaken (DataValue packet) port bytes old new = IsDataTaken packet.prologue.stream bytes port old new
IsTaken (ContextValue rec) port bytes old new = IsContextTaken rec port (length bytes) old new
IsTaken (VersionValue rec) port bytes old new = IsVersionTaken rec.prologue.stream bytes port old new
IsTaken (ControlValue packet) port bytes old new = new ≡ refused old port (length bytes) Malformed 0 None
IsTaken (CancelValue packet) port bytes old new = new ≡ refused old port (length bytes) Malformed 0 None
IsTaken (AckValue packet) port bytes old new = new ≡ refused old port (length bytes) Answer 0 None

-- a frame was taken: its datagram is a packet, or it is refused
pub record IsPacketTaken (port : ℕ) (bytes : List ℕ) (old new : Gated) : Type 0 where
  pub value : PacketValue
  pub fits : length bytes ≤ 4 * old.max_words
  pub packet : IsDatagram (IsPacket old.profile) value bytes
  pub taken : IsTaken value port bytes old new

pub record IsNoneTaken (port : ℕ) (bytes : List ℕ) (old new : Gated) : Type 0 where
  pub refusal : Refusal
  pub detail : ℕ
  pub none : IsNoPacket old.profile old.max_words bytes refusal detail
  pub after : new ≡ refused old port (length bytes) refusal detail None

abbrev pub IsFrameTaken : (port : ℕ) → List ℕ → Gated → Gated → Type 0
IsFrameTaken port bytes old new = IsPacketTaken port bytes old new ⊎ IsNoneTaken port bytes old new
