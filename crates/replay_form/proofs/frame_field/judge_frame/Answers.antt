use Rattle.replay_form.proofs.Fields.{ends_there}
use Rattle.replay_form.proofs.frame_field.judge_frame.Goals as goal

-- the field that is judged is whole
pub is_right-requires : goal.is_right-requires
is_right-requires c = ends_there c.at-field.result c.args.bytes.now c.end-end.result c.end-end.ensures c.if-bytes-end.false
