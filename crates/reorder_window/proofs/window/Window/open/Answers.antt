use Rattle.std.proofs.Common.{[], refl}
use Rattle.reorder_window.proofs.WindowLemmas.{opened}
use Rattle.reorder_window.proofs.window.Window.open.Goals as goal

pub returns-in-Ok-clause-stands : goal.returns-in-Ok-clause-stands
returns-in-Ok-clause-stands g c = opened _ c.in-Ok.ensures.items refl

pub returns-in-Ok-clause-undrained : goal.returns-in-Ok-clause-undrained
returns-in-Ok-clause-undrained g c = record { arrivals = []; stands = opened _ c.in-Ok.ensures.items refl }
