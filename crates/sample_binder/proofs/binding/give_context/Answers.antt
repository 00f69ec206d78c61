use Rattle.std.proofs.Common.{ℕ, Option, ◌++◌, map, sym, subst}
use Rattle.vrt_time.specs.Time.{TimeStamp}
use Rattle.difi_context.specs.declared.context.ContextRec.{ContextRec}
use Rattle.sample_binder.specs.Queue.{StandsFor}
use Rattle.sample_binder.specs.Arrivals.{released_list}
use Rattle.sample_binder.specs.Calls.{context_event}
use Rattle.sample_binder.proofs.binding.give_context.Goals as goal

pub returns-in-Some-clause-history : goal.returns-in-Some-clause-history
returns-in-Some-clause-history c = λ limits events taken h.
    subst (λ (o : Option (TimeStamp × ℕ × ContextRec)). StandsFor c.context.new.self limits (events ++ map context_event (released_list o)) taken) (sym c.in-Some.is)
    (c.context.ensures.history limits events taken h)
