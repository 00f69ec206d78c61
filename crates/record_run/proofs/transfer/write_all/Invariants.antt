use Rattle.std.proofs.Common.{length, ◌-◌, ◌≡◌, ◌≤◌, take}
use Rattle.std.specs.Io.KnownBytes.{Appends}
use Rattle.record_run.proofs.transfer.write_all.Given as goal

-- the first bytes were appended, and no write failed
abbrev pub invariant-loop-done : goal.invariant-loop-done
invariant-loop-done g l = record {
  within : l.done ≤ length l.bytes;
  bytes : Appends (g.K.Sink.held l.initial.sink) (g.K.Sink.held l.sink) (take l.done l.bytes);
  idle : l.done ≡ 0 → l.sink ≡ l.initial.sink;
  same : g.K.Sink.faults l.sink ≡ g.K.Sink.faults l.initial.sink;
}

abbrev pub decreases-loop-done : goal.decreases-loop-done
decreases-loop-done g l = length l.bytes - l.done
