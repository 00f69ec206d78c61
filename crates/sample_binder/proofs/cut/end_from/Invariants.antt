use Rattle.std.proofs.Common.{◌≡◌, ◌-◌, ◌<◌, ◌≤◌, ℕ, true}
use Rattle.sample_binder.specs.Runs.{label_at, same_label}
use Rattle.sample_binder.proofs.cut.end_from.Given as goal

abbrev pub invariant-loop-end : goal.invariant-loop-end
invariant-loop-end l = record {
  later : l.from ≤ l.end;
  within : l.end ≤ l.samples.number;
  alike : (m : ℕ) → l.from ≤ m → m < l.end → same_label l.label (label_at l.timeline l.why l.samples.stamp l.samples.fields m) ≡ true;
}

abbrev pub decreases-loop-end : goal.decreases-loop-end
decreases-loop-end l = l.samples.number - l.end
