use Rattle.reorder_window.proofs.DeliveryLemmas.{told-now, told-drained}
use Rattle.reorder_window.proofs.laws.numbers_lost_are_absent.Goals as goal

pub returns-clause-arriving : goal.returns-clause-arriving
returns-clause-arriving g c = λ start total size packet order before later s d e. told-now start total size packet order before later s d e

pub returns-clause-draining : goal.returns-clause-draining
returns-clause-draining g c = λ start total size packet order drained s d. told-drained start total size packet order drained s d
