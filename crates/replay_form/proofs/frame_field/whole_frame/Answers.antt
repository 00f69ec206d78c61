-- The frame stands whole in front.
use Rattle.std.proofs.Common.{◌≤◌, length, take, sym, subst, ◌∙◌, arith}
use Rattle.std.proofs.lemmas.Bool.{false≢true}
use Rattle.replay_form.specs.FrameFields.{IsWholeFrame, frame_size}
use Rattle.replay_form.proofs.TakingFrames.{frame_most, whole_in_front, whole_told}
use Rattle.replay_form.proofs.frame_field.whole_frame.Goals as goal

pub returns-else-bytes-size-clause-most : goal.returns-else-bytes-size-clause-most
returns-else-bytes-size-clause-most c =
    let right = c.is_front_right.ensures.0 (c.if-not-is_front_right.false) in
    let most = frame_most c.args.last c.args.bytes.now right in
    omega (arith, c.size_of_frame-size.ensures)

pub returns-else-bytes-size-clause-whole : goal.returns-else-bytes-size-clause-whole
returns-else-bytes-size-clause-whole c =
    let right = c.is_front_right.ensures.0 (c.if-not-is_front_right.false) in
    let there : frame_size c.args.bytes.now ≤ length c.args.bytes.now = omega (arith, c.size_of_frame-size.ensures) in
    subst (λ n. IsWholeFrame c.args.last (take n c.args.bytes.now)) (sym c.size_of_frame-size.ensures) (whole_in_front c.args.last c.args.bytes.now right there)

pub returns-then-not-is_front_right-clause-none : goal.returns-then-not-is_front_right-clause-none
returns-then-not-is_front_right-clause-none c = λ n few w.
    let told = whole_told c.args.last c.args.bytes.now n few w in
    false≢true (sym c.if-not-is_front_right.true ∙ c.is_front_right.ensures.1 told.right)

pub returns-then-bytes-size-clause-none : goal.returns-then-bytes-size-clause-none
returns-then-bytes-size-clause-none c = λ n few w.
    let told = whole_told c.args.last c.args.bytes.now n few w in
    omega (arith, told.all, c.size_of_frame-size.ensures, c.if-bytes-size.true)
