use Rattle.std.proofs.Common.{◌∙◌, arith}
use Rattle.release_form.specs.Layout.{front_of_run}
use Rattle.release_form.proofs.ReleaseLaws.{run_front_least}
use Rattle.release_form.proofs.front.put_front_of_run.Goals as goal

pub returns-clause-behind : goal.returns-clause-behind
returns-clause-behind c = c.put_run.ensures.behind ∙ c.put_next.ensures.behind (front_of_run c.args.run.now) (omega (arith, run_front_least c.args.run.now))
