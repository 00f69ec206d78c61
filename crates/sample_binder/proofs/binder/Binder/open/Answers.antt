use Rattle.sample_binder.proofs.BinderLemmas.{opened}
use Rattle.sample_binder.proofs.binder.Binder.open.Goals as goal

pub returns-in-Ok-open-2-clause-stands : goal.returns-in-Ok-open-2-clause-stands
returns-in-Ok-open-2-clause-stands c =
    opened c.args.limits c.in-Ok.contexts c.in-Ok-open.packets c.in-Ok-open-2.binding c.in-Ok.ensures.size c.in-Ok-open.ensures.size c.in-Ok.ensures.stands c.in-Ok-open.ensures.stands c.in-Ok-open-2.ensures
