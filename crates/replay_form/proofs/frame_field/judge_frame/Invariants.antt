use Rattle.replay_form.specs.FrameFields.{AreFrameRight}
use Rattle.replay_form.proofs.frame_field.judge_frame.Given as goal

-- all fields so far are right
abbrev pub invariant-loop-index : goal.invariant-loop-index
invariant-loop-index l = AreFrameRight l.last l.bytes l.index
