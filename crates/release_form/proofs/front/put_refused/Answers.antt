use Rattle.std.proofs.Common.{◌∙◌, arith}
use Rattle.release_form.proofs.front.put_refused.Goals as goal

pub returns-in-Some-clause-behind : goal.returns-in-Some-clause-behind
returns-in-Some-clause-behind c = c.put_next-in-Some.ensures.behind 40 (omega arith) ∙ c.put_next.ensures.behind 40 (omega arith)

pub returns-in-None-clause-behind : goal.returns-in-None-clause-behind
returns-in-None-clause-behind c = c.put_next-in-None.ensures.behind 40 (omega arith) ∙ c.put_next.ensures.behind 40 (omega arith)
