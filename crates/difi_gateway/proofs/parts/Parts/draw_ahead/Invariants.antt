use Rattle.difi_gateway.specs.State.{IsSound}
use Rattle.difi_gateway.specs.Steps.{gated}
use Rattle.difi_gateway.specs.Progress.{IsOnWay, steps_left}
use Rattle.difi_gateway.proofs.parts.Parts.draw_ahead.Given as goal

abbrev pub invariant-loop-index : goal.invariant-loop-index
invariant-loop-index l = record { way : IsOnWay (gated l.fn.self) (gated l.self); sound : IsSound (gated l.self) }

abbrev pub decreases-loop-index : goal.decreases-loop-index
decreases-loop-index l = steps_left (gated l.self)
