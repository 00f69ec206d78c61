use Rattle.std.proofs.Common.{◌+◌, ◌<◌, Option, IfSome, sym, ap, ◌∙◌, subst}
use Rattle.circular_buffer.specs.Buffer.{Buffer}
use Rattle.vrt_time.specs.Time.{TimeStamp, moment_of}
use Rattle.context_timeline.specs.declared.timed_context.TimedContext.{TimedContext}
use Rattle.context_timeline.specs.State.{TimelineState, IsTimelineState, state_of_kept, with_context, timed_context, stamp_in, horizon_of}
use Rattle.context_timeline.proofs.StateLaws.{state_of-push, IsTimelineState-with_context}
use Rattle.context_timeline.proofs.timeline.Timeline.add.Goals as goal

pub invariant_of-self : goal.invariant_of-self
invariant_of-self c =
    let inside = c.self.inside in
    let rec = c.args.rec.now in
    let old : TimelineState = state_of_kept inside.kept.capacity inside.added inside.kept.items in
    let item : TimedContext = record { stamp = c.stamp.result; changed = rec.changed; fields = rec.fields; lost = c.args.lost } in
    let told : IfSome (horizon_of c.args.self.now) (λ horizon. moment_of horizon < moment_of c.stamp.result) =
    subst (λ (o : Option TimeStamp). IfSome (horizon_of c.args.self.now) (λ horizon. moment_of horizon < moment_of (stamp_in o))) c.stamp.ensures c.requires.later in
    let above : IfSome (horizon_of old) (λ horizon. moment_of horizon < moment_of item.stamp) =
    subst (λ (l : TimelineState). IfSome (horizon_of l) (λ horizon. moment_of horizon < moment_of item.stamp)) (sym c.self.view_is) told in
    subst (λ (b : Buffer TimedContext). IsTimelineState (state_of_kept b.capacity (inside.added + 1) b.items)) (sym c.push_back.ensures.items)
    (IsTimelineState-with_context old item c.self.invariant above)

pub returns-clause-history : goal.returns-clause-history
returns-clause-history c = λ contexts e.
    let inside = c.self.inside in
    let rec = c.args.rec.now in
    let line = c.args.self.now in
    let timed = timed_context rec c.args.lost in
    let with_stamp : TimeStamp → TimedContext = λ stamp. record { stamp = stamp; changed = rec.changed; fields = rec.fields; lost = c.args.lost } in
    let item : TimedContext = with_stamp c.stamp.result in
    ap (λ (b : Buffer TimedContext). state_of_kept b.capacity (inside.added + 1) b.items) c.push_back.ensures.items
    ∙ ap (λ (l : TimelineState). with_context l item) c.self.view_is
    ∙ ap (λ (o : Option TimeStamp). with_context line (with_stamp (stamp_in o))) (sym c.stamp.ensures)
    ∙ ap (λ (l : TimelineState). with_context l timed) e
    ∙ state_of-push line.limit contexts timed
