use Rattle.std.proofs.Common.{◌≡◌, ◌+◌, refl}
use Rattle.replay_form.specs.HeadFields.{end_of}
use Rattle.replay_form.proofs.Fields.{one_more}
use Rattle.replay_form.proofs.judge_head.judge_fields.Goals as goal

-- the field at the index is right as well
pub loop-index-preserved : goal.loop-index-preserved
loop-index-preserved c =
    let field = c.at-field.result in
    let end = c.offset-offset.result + c.width.result in
    let ends : end ≡ end_of c.args.second field = cc in
    one_more c.args.bytes.now c.loop-index.index end c.args.second field c.requires.form c.at-field.ensures ends c.if-bytes-end.false
    (c.if-not-is_right.ensures.0 refl) c.loop-index.invariant
