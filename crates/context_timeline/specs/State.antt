-- The contexts of a stream, of which the last are kept.
use Rattle.std.specs.Prelude.{◌≡◌, ℕ, ◌+◌, ◌<◌, ◌≤◌, min, List, [], ◌∷◌, ◌++◌, map, length, slice_index, Option, Some, None, option_map}
pub use Rattle.circular_buffer.specs.Buffer.{keep_last, last_item}
use Rattle.vrt_time.specs.Time.{TimeStamp, stamp_of, moment_of}
use Rattle.difi_context.specs.declared.context.ContextRec.{ContextRec}
use Rattle.context_timeline.specs.declared.timed_context.TimedContext.{TimedContext}

-- the stamp of a prologue; a context in the grammar has one
abbrev pub stamp_in : Option TimeStamp → TimeStamp
stamp_in (Some stamp) = stamp
stamp_in None = stamp_of 0 0

-- what counts of a context before which so many were lost
abbrev pub timed_context : ContextRec → ℕ → TimedContext
timed_context rec lost = record { stamp = stamp_in rec.prologue.stamp; changed = rec.changed; fields = rec.fields; lost = lost }

-- how many may be kept, how many were added, and the last of these, which are kept
pub record TimelineState : Type 0 where
  pub limit : ℕ
  pub added : ℕ
  pub kept : List TimedContext

abbrev pub state_of_kept : ℕ → ℕ → List TimedContext → TimelineState
state_of_kept limit added kept = record { limit = limit; added = added; kept = kept }

-- the state once these contexts were added, in their order
abbrev pub state_of : ℕ → List TimedContext → TimelineState
state_of limit contexts = state_of_kept limit (length contexts) (keep_last limit contexts)

-- the state with one more context
abbrev pub with_context : TimelineState → TimedContext → TimelineState
with_context state context = state_of_kept state.limit (state.added + 1) (keep_last state.limit (state.kept ++ context ∷ []))

-- the stamp of the last context
abbrev pub horizon_of : TimelineState → Option TimeStamp
horizon_of state = option_map (λ context. context.stamp) (last_item state.kept)

abbrev pub moments : List TimedContext → List ℕ
moments contexts = map (λ context. moment_of context.stamp) contexts

-- each moment is above those in front of it
pub record IsRising (moments : List ℕ) : Type 0 where
  pub rising : (i j : ℕ) → i < j → j < length moments → slice_index moments i < slice_index moments j

-- what is true of every timeline
pub record IsTimelineState (state : TimelineState) : Type 0 where
  pub limit : 2 ≤ state.limit
  pub number : length state.kept ≡ min state.added state.limit
  pub rising : IsRising (moments state.kept)
