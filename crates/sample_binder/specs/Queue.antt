-- What a contract sees of the queue of released packets, and what it still has to give.
use Rattle.std.specs.Prelude.{◌≡◌, ℕ, ◌+◌, ◌-◌, ◌≤◌, ◌||◌, nat_lt, Bool, true, false, if◌then◌else◌, List, [], ◌∷◌, ◌++◌, length, drop, map, slice_get, Option, Some, None, IfSome}
use Rattle.context_timeline.specs.declared.timed_context.TimedContext.{TimedContext}
use Rattle.context_timeline.specs.State.{TimelineState, IsTimelineState}
use Rattle.context_timeline.specs.Marks.{mark_in}
use Rattle.vrt_time.specs.Time.{moment_of}
use Rattle.sample_binder.specs.declared.give.Leaving.{Leaving}
use Rattle.vrt_fields.specs.declared.limits.Limits.{Limits}
use Rattle.sample_binder.specs.declared.out.Out.{Out}
use Rattle.sample_binder.specs.declared.out.Out.TheVariants as out
use Rattle.sample_binder.specs.Pending.{Pending}
use Rattle.sample_binder.specs.declared.sampling.Shape.{Shape}
use Rattle.sample_binder.specs.Due.{is_known, has_case_after, may_leave}
use Rattle.sample_binder.specs.Events.{Event, packets_of, has_ended, line_after}
use Rattle.sample_binder.specs.Left.{runs_left_of, IsLeaving, decided}
use Rattle.sample_binder.specs.Outputs.{open_reason, packet_and_runs, outputs}
use Rattle.sample_binder.specs.Sound.{HasSampling}

-- how many packets may wait, the timeline, the packets that wait, what is left of the one that leaves, and whether the end
-- has come
pub record State : Type 0 where
  pub pending : ℕ
  pub line : TimelineState
  pub queue : List Pending
  pub leaving : Option Leaving
  pub ended : Bool

-- the first of these packets need not wait
abbrev pub is_first_due : ℕ → TimelineState → Bool → Shape → ℕ → Bool
is_first_due pending line ended shape waiting = is_known line shape || nat_lt pending waiting || ended

-- what the packets that wait give now: as long as the first of them need not wait, it and its runs
abbrev pub queue_owes : ℕ → TimelineState → Bool → List Pending → List Out
queue_owes pending line ended [] = []
queue_owes pending line ended (packet ∷ rest) =
    if is_first_due pending line ended packet.shape (length (packet ∷ rest))
    then packet_and_runs line (open_reason ended) packet ++ queue_owes pending line ended rest else []

-- what is given before the next event: the runs that are left of the packet that leaves, and then what the others give
abbrev pub owed : State → List Out
owed state =
    map out.Run (runs_left_of state.line (open_reason state.ended) state.leaving)
    ++ queue_owes state.pending state.line state.ended state.queue

-- these events have happened, and so many of their outputs were given: the packets that wait are those that have not left;
-- those before them are due, and none of them was due before the last event; what is owed is the rest of the outputs
pub record StandsFor (state : State) (limits : Limits) (events : List Event) (taken : ℕ) : Type 0 where
  pub pending : state.pending ≡ limits.pending
  pub line : state.line ≡ line_after limits.kept events
  pub ended : state.ended ≡ has_ended events
  pub left : ℕ
  pub left_within : left ≤ length (packets_of events)
  pub queue : state.queue ≡ drop left (packets_of events)
  pub since : ℕ
  pub are_due : may_leave (has_case_after limits events) (length events) left ≡ Some since
  pub not_before : may_leave (has_case_after limits events) (length events - 1) (left + 1) ≡ None
  pub taken_within : taken ≤ length (outputs limits events)
  pub rest : drop taken (outputs limits events) ≡ owed state

-- of each kept context the fields have a rate and an item size within their ranges
pub record AreSound (kept : List TimedContext) : Type 0 where
  pub each : (k : ℕ) (context : TimedContext) → slice_get kept k ≡ Some context → HasSampling context.fields

-- the payload is no longer than a packet can be
pub record IsShape (shape : Shape) : Type 0 where
  pub words : shape.words ≤ 16369
  pub pad : shape.pad ≤ 31

pub record AreShapes (queue : List Pending) : Type 0 where
  pub each : (k : ℕ) (packet : Pending) → slice_get queue k ≡ Some packet → IsShape packet.shape

-- what is true of every queue
pub record IsState (state : State) : Type 0 where
  pub room : length state.queue ≤ state.pending + 1
  pub is_line : IsTimelineState state.line
  pub sound : AreSound state.line.kept
  pub shapes : AreShapes state.queue
  pub leaving : IfSome state.leaving (IsLeaving state.line (open_reason state.ended))

-- how the first of the packets that wait leaves, where it need not wait
abbrev pub first_decided : ℕ → TimelineState → Bool → List Pending → Option Leaving
first_decided pending line ended [] = None
first_decided pending line ended (packet ∷ rest) =
    decided line packet.shape (nat_lt pending (length (packet ∷ rest)) || ended) (open_reason ended) (mark_in line (moment_of packet.shape.stamp))

-- the first of these packets needs another context, if there is one
abbrev pub FirstWaits : TimelineState → List Pending → Type 0
FirstWaits line [] = Unit {0}
FirstWaits line (packet ∷ rest) = is_known line packet.shape ≡ false

-- and there is room for one more than may wait; and whether the first is known to wait
pub record IsBinding (state : State) (capacity : ℕ) (waits : Bool) : Type 0 where
  pub is_state : IsState state
  pub room_kept : state.pending + 1 ≤ capacity
  pub first : waits ≡ true → FirstWaits state.line state.queue
