use Rattle.std.proofs.Common.{subst, sym}
use Rattle.difi_gateway.specs.State.{Gated, StandsFor}
use Rattle.difi_gateway.specs.Steps.{gated}
use Rattle.difi_gateway.specs.Progress.{IsSettledAt}
use Rattle.difi_gateway.proofs.GivingLemmas.{owes_exactly}
use Rattle.difi_gateway.proofs.gateway.Gateway.owes.Goals as goal

pub returns-clause-exactly : goal.returns-clause-exactly
returns-clause-exactly c = λ head received ended given st.
    owes_exactly (gated c.self.inside.parts) head received ended given (subst (λ (g : Gated). StandsFor g head received ended given) (sym c.self.view_is) st)
    _ c.owes.ensures.owing (λ e. c.owes.ensures.settled e c.self.invariant.ahead)

pub returns-clause-rest : goal.returns-clause-rest
returns-clause-rest c = λ e. subst IsSettledAt c.self.view_is (c.owes.ensures.settled e c.self.invariant.ahead)
