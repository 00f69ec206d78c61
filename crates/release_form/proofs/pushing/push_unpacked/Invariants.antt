use Rattle.std.proofs.Common.{◌-◌, ◌*◌, ◌≤◌}
use Rattle.release_form.specs.Release.{AreSamples, IsBehind}
use Rattle.release_form.proofs.pushing.push_unpacked.Given as goal

abbrev pub invariant-loop-done : goal.invariant-loop-done
invariant-loop-done l =
    record {
      within : l.done ≤ l.number;
      written : IsBehind (AreSamples l.bits l.first l.done l.payload) (4 * l.done) l.fn.out l.out;
    }

abbrev pub decreases-loop-done : goal.decreases-loop-done
decreases-loop-done l = l.number - l.done
