-- What is wrong in the part that was taken is wrong in all of the piece.
use Rattle.std.proofs.Common.{subst}
use Rattle.pcap_frames.specs.CaptureFields.{IsFileWrongAt}
use Rattle.pcap_frames.proofs.TakingLaws.{file_wrong_in_piece}
use Rattle.pcap_frames.proofs.take.take_file_head.Goals as goal

pub returns-in-Err-clause-wrong : goal.returns-in-Err-clause-wrong
returns-in-Err-clause-wrong c =
    let wrong = subst (λ xs. IsFileWrongAt xs c.in-Err.offset) c.deref.ensures.value c.in-Err.ensures.wrong in
    file_wrong_in_piece c.args.held.now.items c.args.piece.now c.take_up_to-count.new.held.items c.take_up_to-count.result c.in-Err.offset c.take_up_to-count.ensures.held wrong
