use Rattle.std.proofs.Common.{◌≡◌, ◌+◌, ◌<◌, ◌++◌, ℕ, List, length}
use Rattle.std.specs.Prelude.{None}
use Rattle.record_run.specs.Steps.{way_of, IsReady, HeadStays}
use Rattle.record_run.proofs.Feeding.{AreFed}
use Rattle.record_run.proofs.reading.feed_all.Given as goal

-- the bytes in front were fed
abbrev pub invariant-loop-rest : goal.invariant-loop-rest
invariant-loop-rest g l = record {
  front : List ℕ;
  split : l.bytes ≡ front ++ l.rest;
  ready : IsReady (g.I.Intake.reads l.intake) (g.T.Teller.tells l.teller);
  wants : (g.T.Teller.tells l.teller).wants ≡ (g.T.Teller.tells l.initial.teller).wants;
  given : (g.I.Intake.reads l.intake).given ≡ (g.I.Intake.reads l.initial.intake).given + length front;
  stays : HeadStays (g.I.Intake.reads l.initial.intake).head (g.I.Intake.reads l.intake).head;
  room : length l.out.text < 65536;
  quiet : (g.I.Intake.reads l.intake).head ≡ None → (l.sink ≡ l.initial.sink) × (l.out ≡ l.initial.out);
  fed : AreFed front (g.I.Intake.reads l.initial.intake) (g.I.Intake.reads l.intake) (g.T.Teller.tells l.initial.teller) (g.T.Teller.tells l.teller)
      (way_of l.initial.out (g.K.Sink.held l.initial.sink) (g.K.Sink.faults l.initial.sink)) (way_of l.out (g.K.Sink.held l.sink) (g.K.Sink.faults l.sink));
}

abbrev pub decreases-loop-rest : goal.decreases-loop-rest
decreases-loop-rest g l = length l.rest
