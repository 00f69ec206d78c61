use Rattle.std.proofs.Common.{◌≡◌}
use Rattle.std.specs.Prelude.{None}
use Rattle.record_run.specs.Steps.{way_of}
use Rattle.record_run.proofs.Outcomes.{IsAtRead}
use Rattle.record_run.proofs.run.read_record.Given as goal

-- what was read was told of, and no read and no write failed
abbrev pub invariant-loop-count : goal.invariant-loop-count
invariant-loop-count g l = record {
  at : IsAtRead (record { most = l.fn.most; grammar = g.I.Intake.grammar; tells = g.T.Teller.tells l.initial.teller }) (g.I.Intake.reads l.initial.intake) (g.I.Intake.reads l.intake)
      (g.T.Teller.tells l.teller) (way_of l.initial.out (g.K.Sink.held l.initial.sink) (g.K.Sink.faults l.initial.sink)) (way_of l.out (g.K.Sink.held l.sink) (g.K.Sink.faults l.sink))
      l.left (g.S.Source.left l.initial.source) (g.S.Source.left l.source);
  source_kept : g.S.Source.faults l.source ≡ g.S.Source.faults l.initial.source;
  quiet : (g.I.Intake.reads l.intake).head ≡ None → l.sink ≡ l.initial.sink;
}

abbrev pub decreases-loop-count : goal.decreases-loop-count
decreases-loop-count g l = l.left
