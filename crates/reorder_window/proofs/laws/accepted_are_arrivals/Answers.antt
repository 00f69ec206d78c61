use Rattle.std.proofs.Common.{IsTrue}
use Rattle.reorder_window.proofs.WindowLaws.{every-accepted}
use Rattle.reorder_window.proofs.WindowLemmas.{accepted-falling, accepted-none, accepted-put, accepted-same}
use Rattle.reorder_window.proofs.laws.accepted_are_arrivals.Goals as goal

pub returns-clause-falling : goal.returns-clause-falling
returns-clause-falling g c = λ size arrivals. accepted-falling size arrivals

pub returns-clause-arrivals : goal.returns-clause-arrivals
returns-clause-arrivals g c = λ size arrivals test h. every-accepted (λ a. IsTrue (test a)) size arrivals h

pub returns-clause-none : goal.returns-clause-none
returns-clause-none g c = λ size. accepted-none size

pub returns-clause-one_more : goal.returns-clause-one_more
returns-clause-one_more g c = λ size arrivals a h. accepted-put size arrivals a h

pub returns-clause-no_more : goal.returns-clause-no_more
returns-clause-no_more g c = λ size arrivals a h. accepted-same size arrivals a h
