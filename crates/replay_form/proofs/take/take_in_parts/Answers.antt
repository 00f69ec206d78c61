-- The frame begins, or goes on.
use Rattle.std.proofs.Common.{◌<◌, ◌+◌, length, subst, arith}
use Rattle.std.proofs.lemmas.List.{take_rest}
use Rattle.replay_form.specs.FrameFields.{IsFrameJudged, IsFrameWrongAt}
use Rattle.replay_form.proofs.Taking.{whole_piece}
use Rattle.replay_form.proofs.TakingFrames.{frame_wrong_in_piece, frame_part, frame_begins, whole_of_datagram, frame_takes_some}
use Rattle.replay_form.proofs.take.take_in_parts.Goals as goal

pub returns-in-Err-clause-wrong : goal.returns-in-Err-clause-wrong
returns-in-Err-clause-wrong c =
    let wrong = subst (λ xs. IsFrameWrongAt c.args.last xs c.in-Err.offset) c.deref.ensures.value c.in-Err.ensures.wrong in
    frame_wrong_in_piece c.args.last c.args.held.now.items c.args.piece.now c.take_up_to-first.new.held.items c.take_up_to-first.result c.in-Err.offset
    c.take_up_to-first.ensures.held wrong

pub returns-then-len-lt-FRAME_HEAD-clause-taken : goal.returns-then-len-lt-FRAME_HEAD-clause-taken
returns-then-len-lt-FRAME_HEAD-clause-taken c =
    let new = c.take_up_to-first.new.held.items in
    let judged = subst (λ xs. IsFrameJudged c.args.last xs c.in_default.field-0) c.deref.ensures.value c.in_default.ensures.judged in
    let count = c.take_up_to-first.ensures.len in
    let short : length new < 20 = omega arith in record {
      held = whole_piece c.args.held.now.items c.args.piece.now new c.take_up_to-first.result c.take_up_to-first.ensures.held (c.take_up_to-first.ensures.all short);
      goes_on = frame_part c.args.last new c.in_default.field-0 judged short;
    }

pub take_datagram-requires-clause-begun : goal.take_datagram-requires-clause-begun
take_datagram-requires-clause-begun c =
    let new = c.take_up_to-first.new.held.items in
    let judged = subst (λ xs. IsFrameJudged c.args.last xs c.in_default.field-0) c.deref.ensures.value c.in_default.ensures.judged in
    let count = c.take_up_to-first.ensures.len in
    frame_begins c.args.last c.args.held.now.items c.args.piece.now new c.take_up_to-first.result c.in_default.field-0 c.take_up_to-first.ensures.held c.requires.begun
    c.take_up_to-first.ensures.within c.take_up_to-first.ensures.none (omega arith) judged

pub returns-in-Whole-clause-taken : goal.returns-in-Whole-clause-taken
returns-in-Whole-clause-taken c =
    let taken = rw c.in-Whole.is at c.take_datagram.ensures.taken in
    whole_of_datagram c.args.last c.args.held.now.items c.args.piece.now _ c.take_up_to-first.new.held.items c.take_datagram.new.held.items c.take_up_to-first.result
    c.in-Whole.count c.take_up_to-first.ensures.few c.take_up_to-first.ensures.held (take_rest c.args.piece.now c.take_up_to-first.result) taken

pub returns-in-Whole-clause-progress : goal.returns-in-Whole-clause-progress
returns-in-Whole-clause-progress c =
    frame_takes_some c.args.last c.args.held.now.items c.args.piece.now c.take_datagram.new.held.items (c.take_up_to-first.result + c.in-Whole.count) c.requires.begun
    (returns-in-Whole-clause-taken c)
