use Rattle.sample_binder.specs.Drained.{Drains, steps_left}
use Rattle.sample_binder.proofs.drain.advance.Given as goal

abbrev pub invariant-loop-contexts : goal.invariant-loop-contexts
invariant-loop-contexts l = Drains l.fn.contexts l.fn.packets l.fn.binding l.contexts l.packets l.binding

abbrev pub decreases-loop-contexts : goal.decreases-loop-contexts
decreases-loop-contexts l = steps_left l.contexts l.packets l.binding.ended
