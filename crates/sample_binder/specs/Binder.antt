-- What a contract sees of a binder, and what it stands for.
use Rattle.std.specs.Prelude.{◌≡◌, ℕ, ◌+◌, ◌≤◌, ◌^◌, Bool, true, false, if◌then◌else◌, List, [], ◌∷◌, ◌++◌, length, map, Result, Ok, Err}
use Rattle.std.specs.List.{AllByRecursion}
use Rattle.vrt_words.specs.Buffer.{Buffer}
use Rattle.vrt_header.specs.Profile.{PacketProfile}
use Rattle.difi_context.specs.declared.context.ContextRec.{ContextRec}
use Rattle.context_timeline.specs.State.{TimelineState, state_of}
use Rattle.reorder_window.specs.declared.entry.Entry.{Entry}
use Rattle.reorder_window.specs.State as window
use Rattle.reorder_window.specs.State.{Holding}
use Rattle.reorder_window.specs.Window.{accepted, releases}
use Rattle.vrt_fields.specs.declared.limits.Limits.{Limits}
use Rattle.vrt_fields.specs.Limits.{AreLimits}
use Rattle.sample_binder.specs.declared.arrive.Turned.{Turned}
use Rattle.sample_binder.specs.Calls.{Call, context_arrivals, data_arrivals, is_told, context_event, data_event, behind, all_releases, events_of}
use Rattle.sample_binder.specs.Events.{Event, EndEvent}
use Rattle.sample_binder.specs.Given.{IsContextEntry, IsDataEntry}
use Rattle.sample_binder.specs.Queue.{State, owed}
use Rattle.sample_binder.specs.Queue as queue
use Rattle.sample_binder.specs.Released.{released_context}

-- what it was opened with, the two windows, the timeline and the packets that wait, how many packets it has taken, and
-- whether the end was told
pub record BinderState : Type 0 where
  pub profile : PacketProfile
  pub limits : Limits
  pub contexts : Holding ContextRec
  pub packets : Holding Buffer
  pub state : State
  pub given : ℕ
  pub told : Bool

-- how many data packets it keeps: those that the window holds, and those that wait
abbrev pub number_kept : BinderState → ℕ
number_kept bound = length bound.packets.held + length bound.state.queue

-- the events that are left after the end was told: what the windows still hold, and the end
abbrev pub end_events : Limits → List Call → ℕ → ℕ → List Event
end_events limits calls contexts_drained packets_drained =
    map context_event (behind (releases limits.context_window (context_arrivals calls) contexts_drained) (all_releases limits.context_window (context_arrivals calls)))
    ++ (map data_event (behind (releases limits.data_window (data_arrivals calls) packets_drained) (all_releases limits.data_window (data_arrivals calls)))
    ++ EndEvent ∷ [])

abbrev pub left_events : Limits → List Call → ℕ → ℕ → Bool → List Event
left_events limits calls contexts_drained packets_drained ended =
    if is_told calls then (if ended then [] else end_events limits calls contexts_drained packets_drained) else []

-- these calls were made, and so many of their outputs were taken: the windows stand for the arrivals, the queue for the
-- events that have happened, and those that are left make up the events of the calls
pub record Follows (limits : Limits) (contexts : Holding ContextRec) (packets : Holding Buffer) (state : State) (told : Bool) (calls : List Call) (taken : ℕ) : Type 0 where
  pub context_size : contexts.size ≡ limits.context_window
  pub data_size : packets.size ≡ limits.data_window
  pub contexts_drained : ℕ
  pub contexts_stand : window.StandsFor contexts (context_arrivals calls) contexts_drained
  pub packets_drained : ℕ
  pub packets_stand : window.StandsFor packets (data_arrivals calls) packets_drained
  pub is_told_too : told ≡ is_told calls
  pub undrained : told ≡ false → (contexts_drained ≡ 0) × (packets_drained ≡ 0)
  pub done : List Event
  pub queue_stands : queue.StandsFor state limits done taken
  pub left : done ++ left_events limits calls contexts_drained packets_drained state.ended ≡ events_of limits calls

abbrev pub StandsFor : BinderState → List Call → ℕ → Type 0
StandsFor bound calls taken = Follows bound.limits bound.contexts bound.packets bound.state bound.told calls taken

-- the contexts that arrived are in the grammar, and the timeline is that of those that were released
pub record AreContextsSeen (kept given : ℕ) (holding : Holding ContextRec) (line : TimelineState) (told : Bool) : Type 0 where
  pub arrivals : List (Entry ContextRec)
  pub drained : ℕ
  pub stands : window.StandsFor holding arrivals drained
  pub undrained : told ≡ false → drained ≡ 0
  pub entries : AllByRecursion IsContextEntry arrivals
  pub line_is : line ≡ state_of kept (map released_context (releases holding.size arrivals drained))
  pub few : length (accepted holding.size arrivals) ≤ given

pub record ArePacketsSeen (holding : Holding Buffer) (told : Bool) : Type 0 where
  pub arrivals : List (Entry Buffer)
  pub drained : ℕ
  pub stands : window.StandsFor holding arrivals drained
  pub undrained : told ≡ false → drained ≡ 0
  pub entries : AllByRecursion IsDataEntry arrivals

pub record AreSeen (kept given : ℕ) (contexts : Holding ContextRec) (packets : Holding Buffer) (line : TimelineState) (told : Bool) : Type 0 where
  pub contexts_seen : AreContextsSeen kept given contexts line told
  pub packets_seen : ArePacketsSeen packets told

-- what is true of every binder. Once the end was told, something is owed, or the end has come.
pub record IsBinderState (bound : BinderState) : Type 0 where
  pub limits : AreLimits bound.limits
  pub context_size : bound.contexts.size ≡ bound.limits.context_window
  pub data_size : bound.packets.size ≡ bound.limits.data_window
  pub pending : bound.state.pending ≡ bound.limits.pending
  pub few : bound.given ≤ 2 ^ 63
  pub seen : AreSeen bound.limits.kept bound.given bound.contexts bound.packets bound.state.line bound.told
  pub running : bound.told ≡ false → bound.state.ended ≡ false
  pub at_rest : bound.told ≡ true → owed bound.state ≡ [] → bound.state.ended ≡ true

-- the answers that are given to the caller, without what is released
abbrev pub without_packet : {R T : Type 0} → Result R (Turned × T) → Result (Unit {0}) Turned
without_packet (Ok released) = Ok tt
without_packet (Err e) = Err e.0

abbrev pub without_release : {R E : Type 0} → Result R E → Result (Unit {0}) E
without_release (Ok released) = Ok tt
without_release (Err e) = Err e

-- what stays while packets are given
pub record SameBinder (old new : BinderState) : Type 0 where
  pub profile : new.profile ≡ old.profile
  pub limits : new.limits ≡ old.limits
  pub told : new.told ≡ old.told
