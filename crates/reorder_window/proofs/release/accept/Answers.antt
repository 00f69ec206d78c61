use Rattle.std.proofs.Common.{refl}
use Rattle.reorder_window.proofs.release.accept.Goals as goal

pub returns-clause-released : goal.returns-clause-released
returns-clause-released g c = λ _. record {
  given = _;
  is_given = rw c.put_at.ensures.items at c.in-Some.ensures.least;
  released = refl;
}
