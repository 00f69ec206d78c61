-- The head of the file has not begun.
use Rattle.std.proofs.Common.{◌≡◌, None, ap, ◌∙◌, arith}
use Rattle.replay_form.specs.Reading.{Reading as HeaderReading}
use Rattle.pcap_frames.specs.Reading.{Reading}
use Rattle.pcap_frames.specs.declared.stage.Stage.TheVariants as stages
use Rattle.pcap_frames.specs.contracts.reader.CaptureReader.{the_view}
use Rattle.pcap_frames.proofs.ReadingLaws.{opened_kept}
use Rattle.pcap_frames.proofs.reader.CaptureReader.feed_header.Goals as goal

pub invariant_of-self-in-Ok-default-Head : goal.invariant_of-self-in-Ok-default-Head
invariant_of-self-in-Ok-default-Head c =
    let inside = the_view c.self.inside in
    let stage : inside.stage ≡ stages.Header = ap (λ (r : Reading). r.stage) c.self.view_is ∙ c.requires.stage in
    let sound : inside.fault ≡ None = ap (λ (r : Reading). r.fault) c.self.view_is ∙ c.requires.sound in
    let step = rw c.in-Ok-default-Head.field-0-1-is at c.in-Ok-default-Head.ensures.step in
    let few = c.in-Ok-default-Head.ensures.few in
    let limit = c.requires.small in
    let start : inside.start ≡ c.args.self.now.start = ap (λ (r : Reading). r.start) c.self.view_is in
    opened_kept inside _ c.feed.new.self c.in-Ok-default-Head.count c.self.invariant sound stage (ap (λ (r : HeaderReading). r.started) step.after) (omega arith)
