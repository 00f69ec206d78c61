-- The frame goes on with its datagram.
use Rattle.std.proofs.Common.{◌≡◌, ◌<◌, ◌≤◌, length, ap, ◌∙◌, arith}
use Rattle.replay_form.specs.FrameFields.{frame_size}
use Rattle.replay_form.proofs.Taking.{whole_piece}
use Rattle.replay_form.proofs.TakingFrames.{frame_most, frame_grown, frame_resumes, datagram_open, datagram_whole}
use Rattle.replay_form.proofs.take.take_datagram.Goals as goal

pub take_up_to-count-requires : goal.take_up_to-count-requires
take_up_to-count-requires c =
    let old = c.args.held.now.items in
    let few = frame_most c.args.last old c.requires.begun.right in
    let same : c.size_of_frame-size.result ≡ frame_size old = c.size_of_frame-size.ensures ∙ ap frame_size c.deref.ensures.value in
    omega arith

pub returns-then-len-size-clause-taken : goal.returns-then-len-size-clause-taken
returns-then-len-size-clause-taken c =
    let old = c.args.held.now.items in
    let new = c.take_up_to-count.new.held.items in
    let size : c.size_of_frame-size.result ≡ frame_size old = c.size_of_frame-size.ensures ∙ ap frame_size c.deref.ensures.value in
    let grown = frame_grown c.args.last old _ new c.take_up_to-count.ensures.held c.requires.begun in
    let right = frame_resumes c.args.last old _ new c.take_up_to-count.ensures.held c.requires.begun.right in
    let count = c.take_up_to-count.ensures.len in
    let short : length new < c.size_of_frame-size.result = omega arith in record {
      held = whole_piece old c.args.piece.now new c.take_up_to-count.result c.take_up_to-count.ensures.held (c.take_up_to-count.ensures.all short);
      goes_on = datagram_open c.args.last new right (omega arith);
    }

pub returns-else-len-size-clause-taken : goal.returns-else-len-size-clause-taken
returns-else-len-size-clause-taken c =
    let old = c.args.held.now.items in
    let new = c.take_up_to-count.new.held.items in
    let size : c.size_of_frame-size.result ≡ frame_size old = c.size_of_frame-size.ensures ∙ ap frame_size c.deref.ensures.value in
    let grown = frame_grown c.args.last old _ new c.take_up_to-count.ensures.held c.requires.begun in
    let right = frame_resumes c.args.last old _ new c.take_up_to-count.ensures.held c.requires.begun.right in
    let count = c.take_up_to-count.ensures.len in
    let within = c.requires.begun.within in
    let most : length new ≤ c.size_of_frame-size.result = c.take_up_to-count.ensures.within (omega arith) in record {
      few = c.take_up_to-count.ensures.few;
      held = c.take_up_to-count.ensures.held;
      whole = datagram_whole c.args.last new right (omega arith);
    }
