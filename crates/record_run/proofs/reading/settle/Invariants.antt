use Rattle.std.specs.Prelude.{◌≡◌, true}
use Rattle.record_run.specs.Steps.{way_of, IsPut}
use Rattle.record_run.proofs.reading.settle.Given as goal

abbrev pub invariant-loop : goal.invariant-loop
invariant-loop g l = record {
  started : (g.T.Teller.tells l.teller).started ≡ true;
  put : IsPut (g.T.Teller.tells l.initial.teller) (g.T.Teller.tells l.teller)
      (way_of l.initial.out (g.K.Sink.held l.initial.sink) (g.K.Sink.faults l.initial.sink)) (way_of l.out (g.K.Sink.held l.sink) (g.K.Sink.faults l.sink));
}

abbrev pub decreases-loop : goal.decreases-loop
decreases-loop g l = (g.T.Teller.tells l.teller).owed
