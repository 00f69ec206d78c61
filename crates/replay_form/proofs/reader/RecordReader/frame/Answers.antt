-- The frame stands in the bytes given, or in those held.
use Rattle.std.proofs.Common.{◌≡◌, ◌∙◌, true, sym, ap, subst, arith}
use Rattle.replay_form.specs.FrameFields.{IsWholeFrame}
use Rattle.replay_form.specs.Reading.{Reading, whole_bytes}
use Rattle.replay_form.specs.Record.{first_stamp}
use Rattle.replay_form.proofs.FrameLaws.{frame_ranges}
use Rattle.replay_form.proofs.reader.RecordReader.frame.Goals as goal

pub returns-clause-most : goal.returns-clause-most
returns-clause-most c =
    let bytes = c.bytes_of_frame-bytes.result.now in
    let whole : c.args.self.now.whole ≡ true = sym (ap (λ (r : Reading). r.whole) c.self.view_is) ∙ grind arith in
    let held = c.deref.ensures.value ∙ ap (λ (r : Reading). r.held) c.self.view_is in
    let is : bytes ≡ whole_bytes c.args.self.now.held c.args.taken.now = c.bytes_of_frame-bytes.ensures ∙ ap (λ h. whole_bytes h c.args.taken.now) held in
    let size = (frame_ranges first_stamp bytes (subst (IsWholeFrame first_stamp) (sym is) (c.requires whole).whole)).size in
    grind arith
