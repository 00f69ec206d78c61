use Rattle.reorder_window.specs.State.{IsUndrained}
use Rattle.reorder_window.proofs.tests.the_greatest_window_holds_4096_packets.Given as goal

abbrev pub invariant-loop-number : goal.invariant-loop-number
invariant-loop-number g l = IsUndrained l.window
