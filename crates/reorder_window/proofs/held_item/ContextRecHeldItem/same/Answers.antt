use Rattle.std.proofs.Common.{true, sym, ◌∙◌}
use Rattle.reorder_window.proofs.SameContextLemmas.{contexts_decide}
use Rattle.reorder_window.proofs.held_item.ContextRecHeldItem.same.Goals as goal

pub returns-clause-equal : goal.returns-clause-equal
returns-clause-equal c =
    let d = contexts_decide c.args.self.now c.args.other.now in
    (λ h. d.0 (sym c.eq.ensures ∙ h), λ s. c.eq.ensures ∙ d.1 s)
