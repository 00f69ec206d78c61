use Rattle.std.proofs.Common.{◌+◌, length, take, refl, sym, ap, ◌∙◌, arith}
use Rattle.difi_io.proofs.FaultLaws.{Rose-later}
use Rattle.record_run.proofs.Outcomes.{read_failed, stopped_by, too_many, at_next, ended, ends_with, fed_as, memory_wants}
use Rattle.record_run.proofs.Feeding.{none_before}
use Rattle.record_run.proofs.run.read_record.Goals as goal

pub returns-in-Err-clause-outcome : goal.returns-in-Err-clause-outcome
returns-in-Err-clause-outcome g c =
    let inv = c.loop-count.invariant in
    read_failed _ _ _ _ _ _ c.loop-count.left _ _ _ _ _ (g.met.I.Intake.so_far c.loop-count.intake) inv.at c.in-Err.ensures.err
    (Rose-later _ _ _ (omega (arith, inv.source_kept)) (c.in-Err.ensures.cause.failed refl))

pub returns-then-count-eq0-clause-outcome : goal.returns-then-count-eq0-clause-outcome
returns-then-count-eq0-clause-outcome g c =
    let inv = c.loop-count.invariant in
    ended _ _ _ (g.I.Intake.reads c.loop-count.intake) _ (g.T.Teller.tells c.loop-count.teller) _ _ _ c.loop-count.left _ _ _ inv.at
    c.read_piece.new.piece c.in-Ok.count c.in-Ok.ensures.bytes c.in-Ok.ensures.most c.end.result _ _
    (g.met.I.Intake.so_far c.loop-count.intake) c.if-count-eq0.true (c.in-Ok.ensures.end c.if-count-eq0.true) (c.end.ensures.ended inv.at.taken inv.at.fed.later inv.at.fed.stands)
    c.end.ensures.sound c.end.ensures.cut c.end.ensures.empty

pub returns-in-Err-take-clause-outcome : goal.returns-in-Err-take-clause-outcome
returns-in-Err-take-clause-outcome g c =
    let inv = c.loop-count.invariant in
    stopped_by _ _ _ _ _ _ _ _ _ c.loop-count.left _ _ _ inv.at
    c.read_piece.new.piece c.in-Ok.count c.first_of-within.result c.in-Ok.ensures.bytes c.in-Ok.ensures.most c.first_of-within.ensures c.in-Err-take.status _ _
    (c.in-Err-take.ensures.taken inv.at.taken inv.at.fed.later inv.at.fed.stands)
    c.in-Err-take.ensures.sound c.in-Err-take.ensures.cut c.take.ensures.empty (c.in-Ok.ensures.cause.kept ∙ inv.source_kept)
    (λ out. let m = c.in-Err-take.ensures.memory out in (m.1, m.2)) (λ wants none. c.in-Ok.ensures.single (c.asks_for_one-one.ensures wants none))

pub returns-in-Err-take-clause-memory : goal.returns-in-Err-take-clause-memory
returns-in-Err-take-clause-memory g c = λ out.
    let inv = c.loop-count.invariant in
    let m = c.in-Err-take.ensures.memory (ap ends_with out) in
    let wants = memory_wants g.I.Intake.grammar c.in-Err-take.status _ _ _ _ _ _ _ _ _ out (c.in-Err-take.ensures.taken inv.at.taken inv.at.fed.later inv.at.fed.stands) in
    (sym inv.at.wants ∙ wants, m.0 ∙ inv.quiet m.1)

pub returns-then-within-count-clause-outcome : goal.returns-then-within-count-clause-outcome
returns-then-within-count-clause-outcome g c =
    let inv = c.loop-count.invariant in
    too_many _ _ _ _ _ _ _ _ _ c.loop-count.left _ _ _ inv.at
    c.read_piece.new.piece c.in-Ok.count c.in-Ok.ensures.bytes c.in-Ok.ensures.most _ _ (g.met.I.Intake.so_far c.take.new.intake)
    (fed_as c.read_piece.new.piece c.first_of-within.result c.in-Ok.count c.loop-count.left _ _ _ _ _ _ _ _ c.first_of-within.ensures (c.in_default.ensures.taken inv.at.taken inv.at.fed.later inv.at.fed.stands))
    c.in_default.ensures.stays c.in_default.ensures.ready (record { sound = c.in_default.ensures.sound (λ e. cc); none = c.take.ensures.empty })
    (omega (arith, c.first_of-within.ensures, c.if-within-count.true)) c.in-Ok.ensures.within

pub loop-count-preserved : goal.loop-count-preserved
loop-count-preserved g c =
    let inv = c.loop-count.invariant in record {
      at = at_next _ _ _ _ _ _ _ _ _ c.loop-count.left _ _ _ inv.at
          c.read_piece.new.piece c.in-Ok.count c.in-Ok.ensures.bytes c.in-Ok.ensures.most
          (fed_as c.read_piece.new.piece c.first_of-within.result c.in-Ok.count c.loop-count.left _ _ _ _ _ _ _ _ c.first_of-within.ensures (c.in_default.ensures.taken inv.at.taken inv.at.fed.later inv.at.fed.stands))
          c.in_default.ensures.stays c.in_default.ensures.ready (record { sound = c.in_default.ensures.sound (λ e. cc); none = c.take.ensures.empty })
          c.in_default.ensures.wants
          (c.in_default.ensures.given ∙ ap (λ n. (g.I.Intake.reads c.loop-count.intake).given + length (take n c.read_piece.new.piece)) c.first_of-within.ensures)
          (omega (arith, c.first_of-within.ensures, c.if-within-count.false)) c.in-Ok.ensures.within;
      source_kept = c.in-Ok.ensures.cause.kept ∙ inv.source_kept;
      quiet = λ none. c.in_default.ensures.quiet none ∙ inv.quiet (none_before _ _ c.in_default.ensures.stays none);
    }
