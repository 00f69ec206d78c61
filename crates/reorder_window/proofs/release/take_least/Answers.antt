use Rattle.std.proofs.Common.{refl}
use Rattle.reorder_window.proofs.release.take_least.Goals as goal

pub returns-clause-least : goal.returns-clause-least
returns-clause-least g c = record {
  least = c.in_ok-least.least;
  taken = c.in_ok-least.ensures.items;
  last = refl;
  is_given = rw c.lost_before-lost.ensures refl;
}
