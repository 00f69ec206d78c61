-- What the bytes said obeys the rules of values.
use Rattle.replay_form.proofs.HeadValues.{values_by_spelled}
use Rattle.replay_form.proofs.reader.RecordReader.head.Goals as goal

pub returns-then-self-clause-valid : goal.returns-then-self-clause-valid
returns-then-self-clause-valid c = values_by_spelled c.self.inside.head (c.self.invariant.spelled c.if-self.true)
