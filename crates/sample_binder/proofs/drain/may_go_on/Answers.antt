use Rattle.sample_binder.specs.Queue.{owed}
use Rattle.sample_binder.proofs.DrainLemmas.{none_owed}
use Rattle.sample_binder.proofs.drain.may_go_on.Goals as goal

pub returns-clause-on : goal.returns-clause-on
returns-clause-on c = λ on. none_owed c.owes.result (owed c.args.binding.now) c.owes.ensures.owes c.if-owes.false
