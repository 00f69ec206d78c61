use Rattle.difi_gateway.specs.Steps.{gated}
use Rattle.difi_gateway.proofs.GivingLemmas.{may_draw, way_moved}
use Rattle.difi_gateway.proofs.NearLemmas.{moved_nearer}
use Rattle.difi_gateway.proofs.StepLemmas.{move_sound}
use Rattle.difi_gateway.proofs.parts.Parts.draw_ahead.Goals as goal

pub move_on-requires-clause-bound : goal.move_on-requires-clause-bound
move_on-requires-clause-bound c = (may_draw c.in-Some.index (gated c.loop-index.self) c.loop-index.invariant.sound c.in-Some.ensures.some).bound

pub move_on-requires-clause-uncertain : goal.move_on-requires-clause-uncertain
move_on-requires-clause-uncertain c = (may_draw c.in-Some.index (gated c.loop-index.self) c.loop-index.invariant.sound c.in-Some.ensures.some).uncertain

pub move_on-requires-clause-raw : goal.move_on-requires-clause-raw
move_on-requires-clause-raw c = (may_draw c.in-Some.index (gated c.loop-index.self) c.loop-index.invariant.sound c.in-Some.ensures.some).raw

pub move_on-requires-clause-next : goal.move_on-requires-clause-next
move_on-requires-clause-next c = (may_draw c.in-Some.index (gated c.loop-index.self) c.loop-index.invariant.sound c.in-Some.ensures.some).next

pub loop-index-smaller : goal.loop-index-smaller
loop-index-smaller c =
    let at = c.in-Some.ensures.some in
    moved_nearer (gated c.loop-index.self) (gated c.move_on.new.self) c.in-Some.index at.quiet at.drawn at.within c.move_on.ensures

pub loop-index-preserved : goal.loop-index-preserved
loop-index-preserved c =
    let at = c.in-Some.ensures.some in record {
      way = way_moved (gated c.args.self.now) (gated c.loop-index.self) (gated c.move_on.new.self) c.in-Some.index c.loop-index.invariant.sound at c.move_on.ensures c.loop-index.invariant.way;
      sound = move_sound (gated c.loop-index.self) (gated c.move_on.new.self) c.loop-index.invariant.sound c.in-Some.index at.quiet at.drawn c.move_on.ensures;
    }
