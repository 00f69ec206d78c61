use Rattle.std.proofs.Common.{◌-◌, ◌<◌, ◌≤◌, length, slice_index, ℕ}
use Rattle.context_timeline.specs.State.{moments}
use Rattle.context_timeline.proofs.search.search_below.Given as goal

abbrev pub invariant-loop-low : goal.invariant-loop-low
invariant-loop-low l =
    (l.low ≤ l.high) × (l.high ≤ length l.kept.items)
    × ((k : ℕ) → k < l.low → slice_index (moments l.kept.items) k ≤ l.moment)
    × ((k : ℕ) → l.high ≤ k → k < length (moments l.kept.items) → l.moment < slice_index (moments l.kept.items) k)

abbrev pub decreases-loop-low : goal.decreases-loop-low
decreases-loop-low l = l.high - l.low
