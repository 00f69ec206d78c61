-- The bytes are those that spell the frame.
use Rattle.std.proofs.Common.{length, sym, ap, subst, arith}
use Rattle.vrt_words.specs.Words.{AreBytes}
use Rattle.replay_form.specs.FrameFields.{Frame, IsFrame}
use Rattle.replay_form.proofs.FrameSpelling.{frame_spelled, frame_head, spelled_head, written, behind_frame}
use Rattle.replay_form.proofs.FrameSpelling.{frame_bytes}
use Rattle.replay_form.proofs.frame_writing.encode_frame.Goals as goal

pub returns-clause-again : goal.returns-clause-again
returns-clause-again c = λ last spelled fit is.
    let d = c.args.bytes.now in
    let frame : Frame = record { stamp = c.args.moment; port = c.args.port; datagram = d } in
    written (length d) d c.put_frame_head.new.into c.copy_from_slice.new.self spelled (omega arith) c.copy_from_slice.ensures.after (omega arith)
    (c.put_frame_head.ensures.agrees spelled (spelled_head last frame spelled fit is)) (sym (ap (λ (f : Frame). f.datagram) is.told))

pub returns-clause-frame : goal.returns-clause-frame
returns-clause-frame c = λ last later.
    let d = c.args.bytes.now in
    let frame : Frame = record { stamp = c.args.moment; port = c.args.port; datagram = d } in
    let fit : AreBytes d = λ i. (let f = c.type_inv.bytes i in omega arith) in
    let stamp = c.put_frame_head.ensures.stamp in
    let spelled = frame_spelled last frame stamp (omega arith) c.requires.datagram fit later in
    let head = frame_head frame stamp (omega arith) c.requires.datagram fit in
    subst (IsFrame last frame) (sym (returns-clause-again c last (frame_bytes frame) head.fit spelled)) spelled

pub returns-clause-behind : goal.returns-clause-behind
returns-clause-behind c =
    behind_frame (length c.args.bytes.now) c.put_frame_head.new.into c.copy_from_slice.new.self c.args.into.now (sym (ap length c.copy_from_slice.ensures.after)) (omega arith)
    c.put_frame_head.ensures.stays
