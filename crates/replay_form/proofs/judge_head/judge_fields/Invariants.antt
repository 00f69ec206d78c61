use Rattle.replay_form.specs.HeadFields.{AreRight}
use Rattle.replay_form.proofs.judge_head.judge_fields.Given as goal

-- all fields so far are right
abbrev pub invariant-loop-index : goal.invariant-loop-index
invariant-loop-index l = AreRight l.bytes l.index
