use Rattle.std.proofs.Common.{rules, sym, ◌∙◌, refl}
use Rattle.reorder_window.proofs.judge.judge.Goals as goal

pub returns-then-same : goal.returns-then-same
returns-then-same g c = record {
  above = search rules;
  twin = c.in-Some-twin_at.twin.now;
  is_found = sym (rw c.place_of-place.ensures.number at c.in-Some-twin_at.ensures);
  test = sym c.same.ensures ∙ c.if-same.true;
}

pub returns-else-same : goal.returns-else-same
returns-else-same g c = record {
  above = search rules;
  twin = c.in-Some-twin_at.twin.now;
  is_found = sym (rw c.place_of-place.ensures.number at c.in-Some-twin_at.ensures);
  test = sym c.same.ensures ∙ c.if-same.false;
  is_count = refl;
}
