-- The header begins, or goes on.
use Rattle.std.proofs.Common.{◌≡◌, ◌<◌, ◌+◌, length, sym, ap, subst, ◌∙◌, vec_len, arith}
use Rattle.std.proofs.lemmas.List.{take_rest}
use Rattle.replay_form.specs.HeadFields.{AreJudged, IsHeadWrongAt, field_count}
use Rattle.replay_form.proofs.Taking.{open_resumes, wrong_in_piece, whole_piece, judged_open, begins, part_of_rest, whole_of_rest, least_size, head_takes_some}
use Rattle.replay_form.proofs.take.take_head.Goals as goal

pub judge_head-requires-clause-right : goal.judge_head-requires-clause-right
judge_head-requires-clause-right c =
    let e = c.deref.ensures.value ∙ c.take_up_to-first.ensures.held in
    (open_resumes c.args.held.now.items _ c.deref.result.now c.args.judged e c.requires.begun).right

pub judge_head-requires-clause-among : goal.judge_head-requires-clause-among
judge_head-requires-clause-among c =
    let e = c.deref.ensures.value ∙ c.take_up_to-first.ensures.held in
    (open_resumes c.args.held.now.items _ c.deref.result.now c.args.judged e c.requires.begun).among

pub returns-in-Err-clause-wrong : goal.returns-in-Err-clause-wrong
returns-in-Err-clause-wrong c =
    let wrong = subst (λ xs. IsHeadWrongAt xs c.in-Err.offset) c.deref.ensures.value c.in-Err.ensures.wrong in
    wrong_in_piece c.args.held.now.items c.args.piece.now c.take_up_to-first.new.held.items c.take_up_to-first.result c.in-Err.offset c.take_up_to-first.ensures.held wrong

pub returns-then-len-lt-FIXED_SIZE-clause-taken : goal.returns-then-len-lt-FIXED_SIZE-clause-taken
returns-then-len-lt-FIXED_SIZE-clause-taken c =
    let old = c.args.held.now.items in
    let new = c.take_up_to-first.new.held.items in
    let judged = subst (λ xs. AreJudged xs c.in-Ok.judged (field_count xs)) c.deref.ensures.value c.in-Ok.ensures.judged in
    let count : length new ≡ vec_len c.take_up_to-first.new.held = sym (ap length c.deref.ensures.value) ∙ c.deref.ensures.len in
    let short : length new < 332 = omega arith in
    let least = least_size new in record {
      held = whole_piece old c.args.piece.now new c.take_up_to-first.result c.take_up_to-first.ensures.held (c.take_up_to-first.ensures.all short);
      goes_on = judged_open new c.in-Ok.judged judged (omega arith);
    }

pub take_routes-requires-clause-begun : goal.take_routes-requires-clause-begun
take_routes-requires-clause-begun c =
    let old = c.args.held.now.items in
    let new = c.take_up_to-first.new.held.items in
    let judged = subst (λ xs. AreJudged xs c.in-Ok.judged (field_count xs)) c.deref.ensures.value c.in-Ok.ensures.judged in
    let count : length new ≡ vec_len c.take_up_to-first.new.held = sym (ap length c.deref.ensures.value) ∙ c.deref.ensures.len in
    begins old c.args.piece.now new c.take_up_to-first.result c.args.judged c.in-Ok.judged c.take_up_to-first.ensures.held c.requires.begun
    c.take_up_to-first.ensures.within c.take_up_to-first.ensures.none (omega arith) judged

pub returns-in-Ok-Part-clause-taken : goal.returns-in-Ok-Part-clause-taken
returns-in-Ok-Part-clause-taken c =
    let taken = rw c.in-Ok-Part.field-0-is at c.in-Ok-Part.ensures.taken in
    part_of_rest c.args.held.now.items c.args.piece.now _ c.take_up_to-first.new.held.items c.take_routes.new.held.items c.take_up_to-first.result c.in-Ok-Part.judged
    c.take_up_to-first.ensures.held (take_rest c.args.piece.now c.take_up_to-first.result) taken

pub returns-in-Ok-Whole-clause-taken : goal.returns-in-Ok-Whole-clause-taken
returns-in-Ok-Whole-clause-taken c =
    let taken = rw c.in-Ok-Whole.field-0-is at c.in-Ok-Whole.ensures.taken in
    whole_of_rest c.args.held.now.items c.args.piece.now _ c.take_up_to-first.new.held.items c.take_routes.new.held.items c.take_up_to-first.result c.in-Ok-Whole.count
    c.take_up_to-first.ensures.few c.take_up_to-first.ensures.held (take_rest c.args.piece.now c.take_up_to-first.result) taken

pub returns-in-Ok-Whole-clause-progress : goal.returns-in-Ok-Whole-clause-progress
returns-in-Ok-Whole-clause-progress c =
    head_takes_some c.args.held.now.items c.args.piece.now c.take_routes.new.held.items (c.take_up_to-first.result + c.in-Ok-Whole.count) c.args.judged c.requires.begun
    (returns-in-Ok-Whole-clause-taken c)
