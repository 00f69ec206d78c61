use Rattle.std.proofs.Common.{arith}
use Rattle.sample_binder.proofs.SampleLemmas.{number_told, number_some}
use Rattle.sample_binder.proofs.sampling.samples_of.Goals as goal

pub returns-clause-number : goal.returns-clause-number
returns-clause-number c = number_told c.args.shape.now c.args.bits c.count_of.result (omega arith) c.count_of.ensures.count c.count_of.ensures.none

pub returns-clause-some : goal.returns-clause-some
returns-clause-some c = number_some c.args.shape.now c.args.bits c.count_of.result c.count_of.ensures.count
