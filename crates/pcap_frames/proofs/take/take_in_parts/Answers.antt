-- The record begins, or goes on.
use Rattle.std.proofs.Common.{subst}
use Rattle.std.proofs.lemmas.List.{take_rest}
use Rattle.pcap_frames.specs.CaptureFields.{IsRecordWrongAt}
use Rattle.pcap_frames.proofs.TakingLaws.{record_wrong_in_piece, whole_of_captured}
use Rattle.pcap_frames.proofs.take.take_in_parts.Goals as goal

pub returns-in-Err-clause-wrong : goal.returns-in-Err-clause-wrong
returns-in-Err-clause-wrong c =
    let wrong = subst (λ xs. IsRecordWrongAt c.args.form xs c.in-Err.offset) c.deref.ensures.value c.in-Err.ensures.wrong in
    record_wrong_in_piece c.args.form c.args.held.now.items c.args.piece.now c.take_up_to-first.new.held.items c.take_up_to-first.result c.in-Err.offset
    c.take_up_to-first.ensures.held wrong

pub returns-in-Whole-clause-taken : goal.returns-in-Whole-clause-taken
returns-in-Whole-clause-taken c =
    let taken = rw c.in-Whole.is at c.take_captured.ensures.taken in
    whole_of_captured c.args.form c.args.held.now.items c.args.piece.now _ c.take_up_to-first.new.held.items c.take_captured.new.held.items c.take_up_to-first.result
    c.in-Whole.count c.take_up_to-first.ensures.few c.take_up_to-first.ensures.held (take_rest c.args.piece.now c.take_up_to-first.result) taken
