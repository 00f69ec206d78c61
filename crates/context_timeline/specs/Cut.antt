-- Where the kept contexts are cut by a moment, and the mark that the neighbours of the cut give.
use Rattle.std.specs.Prelude.{ℕ, suc, zero, ◌+◌, ◌-◌, ◌<◌, ◌≤◌, List, length, slice_get, slice_index, Option, Some, None, option_map}
use Rattle.vrt_time.specs.Time.{TimeStamp}
use Rattle.context_timeline.specs.declared.timed_context.TimedContext.{TimedContext}
use Rattle.context_timeline.specs.declared.mark.Mark.{Mark}
use Rattle.context_timeline.specs.declared.mark.Mark.TheVariants.{Open}
use Rattle.context_timeline.specs.State.{TimelineState}
use Rattle.context_timeline.specs.Marks.{mark_before, mark_between}

-- the first n moments are not above t, and the others are
pub record IsPartitionPoint (moments : List ℕ) (t n : ℕ) : Type 0 where
  pub within : n ≤ length moments
  pub before : (k : ℕ) → k < n → slice_index moments k ≤ t
  pub behind : (k : ℕ) → n ≤ k → k < length moments → t < slice_index moments k

-- n contexts are in front of the cut, and this one is behind it, if any
abbrev pub mark_next : TimelineState → ℕ → Option TimedContext → Mark
mark_next state n None = Open
mark_next state zero (Some b) = mark_before state.limit state.added
mark_next state (suc k) (Some b) = mark_between (state.added - length state.kept + k) (slice_get state.kept k) (Some b)

abbrev pub mark_at_cut : TimelineState → ℕ → Mark
mark_at_cut state n = mark_next state n (slice_get state.kept n)

abbrev pub stamp_at : List TimedContext → ℕ → Option TimeStamp
stamp_at kept n = option_map (λ context. context.stamp) (slice_get kept n)
