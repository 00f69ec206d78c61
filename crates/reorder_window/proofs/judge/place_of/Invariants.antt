use Rattle.std.proofs.Common.{◌≡◌, ◌+◌, ◌-◌, ◌≤◌, drop}
use Rattle.std.specs.VecDeque.{deque_len}
use Rattle.reorder_window.specs.Steps.{number_above}
use Rattle.reorder_window.proofs.judge.place_of.Given as goal

abbrev pub invariant-loop-entry : goal.invariant-loop-entry
invariant-loop-entry g l = (l.place ≤ deque_len l.held) × (l.place + number_above l.stamp (drop l.place l.held.items) ≡ number_above l.stamp l.held.items)

abbrev pub decreases-loop-entry : goal.decreases-loop-entry
decreases-loop-entry g l = deque_len l.held - l.place
