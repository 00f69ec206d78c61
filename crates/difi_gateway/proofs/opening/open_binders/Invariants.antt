use Rattle.std.proofs.Common.{◌≡◌, ◌≤◌, vec_len, vec_capacity}
use Rattle.std.specs.List.{AllByRecursion}
use Rattle.difi_gateway.specs.Opened.{IsFresh}
use Rattle.difi_gateway.proofs.opening.open_binders.Given as goal

-- the binders so far, within the room
abbrev pub invariant-loop : goal.invariant-loop
invariant-loop l = record {
  count : vec_len l.binders ≡ l.counter;
  room : l.number ≤ vec_capacity l.binders;
  fresh : AllByRecursion (IsFresh l.profile l.limits) l.binders.items;
}
