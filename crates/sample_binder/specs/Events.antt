-- The events of a stream, and what they have brought.
use Rattle.std.specs.Prelude.{ℕ, Bool, true, false, List, [], ◌∷◌}
use Rattle.context_timeline.specs.declared.timed_context.TimedContext.{TimedContext}
use Rattle.context_timeline.specs.State.{TimelineState, state_of}
use Rattle.sample_binder.specs.Pending.{Pending}

-- a context is released, or a data packet, or the stream ends
pub data Event : Type 0 where
  ContextEvent : TimedContext → Event
  DataEvent : Pending → Event
  EndEvent : Event

-- the contexts that were released, in order
abbrev pub contexts_of : List Event → List TimedContext
contexts_of [] = []
contexts_of (ContextEvent context ∷ events) = context ∷ contexts_of events
contexts_of (DataEvent packet ∷ events) = contexts_of events
contexts_of (EndEvent ∷ events) = contexts_of events

-- the data packets that were released, in order
abbrev pub packets_of : List Event → List Pending
packets_of [] = []
packets_of (ContextEvent context ∷ events) = packets_of events
packets_of (DataEvent packet ∷ events) = packet ∷ packets_of events
packets_of (EndEvent ∷ events) = packets_of events

-- whether the end has come
abbrev pub has_ended : List Event → Bool
has_ended [] = false
has_ended (ContextEvent context ∷ events) = has_ended events
has_ended (DataEvent packet ∷ events) = has_ended events
has_ended (EndEvent ∷ events) = true

-- the timeline after these events, which keeps so many contexts
abbrev pub line_after : ℕ → List Event → TimelineState
line_after kept events = state_of kept (contexts_of events)
