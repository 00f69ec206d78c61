-- By the form.
use Rattle.std.proofs.Common.{◌≡◌, ◌+◌, ◌*◌, ℕ, List, Bool, take, length, sym, subst}
use Rattle.replay_form.specs.HeadFields.{route_size}
use Rattle.replay_form.specs.HeadSpelling.{AreRoutesSpelled}
use Rattle.vrt_fields.specs.declared.route.Route.{Route}
use Rattle.replay_form.proofs.head_writing.put_routes.Goals as goal

abbrev Agrees : List Route → List ℕ → List ℕ → Bool → Type 0
Agrees routes old new second =
    (bytes : List ℕ) → AreRoutesSpelled second routes bytes → take 332 old ≡ take 332 bytes
    → take (332 + route_size second * length routes) new ≡ take (332 + route_size second * length routes) bytes

pub returns-then-second-clause-agrees : goal.returns-then-second-clause-agrees
returns-then-second-clause-agrees c =
    subst (Agrees c.args.routes.now c.args.into.now c.put_second_routes.new.into) (sym c.if-second.true) c.put_second_routes.ensures.agrees

pub returns-else-second-clause-agrees : goal.returns-else-second-clause-agrees
returns-else-second-clause-agrees c =
    subst (Agrees c.args.routes.now c.args.into.now c.put_first_routes.new.into) (sym c.if-second.false) c.put_first_routes.ensures.agrees
