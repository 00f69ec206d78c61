-- What a gateway is once the record that it lent is let go.
use Rattle.std.specs.Prelude.{◌≡◌, ℕ, ◌+◌, ◌<◌, Bool, List, Option, IfSome, IfNone, ⊤}
use Rattle.std.specs.Borrow.{Fml, Bor, MutBor, follows_so}
use mathlib.Core.Option.{none}
use Rattle.replay_form.specs.declared.record_head.RecordHead.{RecordHead}
use Rattle.difi_gateway.specs.Contents.{Received}
use Rattle.difi_gateway.specs.State.{Gated, StandsFor, is_ended}
use Rattle.difi_gateway.specs.Progress.{IsSettledAt, records_owed}
use Rattle.difi_gateway.specs.contracts.gateway.Gateway.{the_row}

-- where a record was lent, one release more is given; else nothing is owed
pub record IsLeft (lent : Option (Bor (List ℕ))) (old new : Gated) : Type 0 where
  pub given : IfSome lent (λ bytes. (head : RecordHead) (received : List Received) (ended : Bool) (given : ℕ) → StandsFor old head received ended given
      → StandsFor new head received ended (given + 1))
  pub none : IfNone lent ((head : RecordHead) (received : List Received) (ended : Bool) (given : ℕ) → StandsFor old head received ended given
      → StandsFor new head received ended given)
  pub rest : IfNone lent (IsSettledAt new)
  pub ended : is_ended new.stage ≡ is_ended old.stage
  pub taken : new.taken ≡ old.taken
  pub less : IfSome lent (λ bytes. records_owed new < records_owed old)

abbrev pub Leaves : MutBor Gated → Option (Bor (List ℕ)) → Fml
Leaves gateway lent = follows_so the_row the_row gateway.ghost_name none (λ _ _. ⊤) (λ new. IsLeft lent gateway.now new)
