use Rattle.std.proofs.Common.{◌≡◌, ◌<◌, Option, IfSome, sym, ap, ◌∙◌, subst}
use Rattle.vrt_time.specs.Time.{TimeStamp, moment_of}
use Rattle.context_timeline.specs.State.{TimelineState, state_of_kept}
use Rattle.context_timeline.specs.Marks.{mark_in, next_stamp}
use Rattle.context_timeline.specs.Looks.{mark_of}
use Rattle.context_timeline.specs.declared.mark.Mark.{Mark}
use Rattle.context_timeline.specs.State.{state_of, moments}
use Rattle.context_timeline.specs.Cut.{IsPartitionPoint, mark_at_cut}
use Rattle.context_timeline.specs.AllContexts.{IsMark}
use Rattle.context_timeline.proofs.AllContextsLaws.{IsMark-cut}
use Rattle.context_timeline.proofs.PartitionLaws.{next_stamp_cut, mark_in_cut, mark_in_later}
use Rattle.context_timeline.proofs.timeline.Timeline.look_until.Goals as goal

pub returns-clause-mark : goal.returns-clause-mark
returns-clause-mark c =
    let inside = c.self.inside in
    let line : TimelineState = state_of_kept inside.kept.capacity inside.added inside.kept.items in
    let t = c.args.moment in
    c.look_and_next.ensures.mark ∙ sym (mark_in_cut line t c.count_not_after-count.result c.count_not_after-count.ensures)
    ∙ ap (λ (l : TimelineState). mark_in l t) c.self.view_is

pub returns-clause-until : goal.returns-clause-until
returns-clause-until c =
    let inside = c.self.inside in
    let t = c.args.moment in
    c.look_and_next.ensures.next ∙ sym (next_stamp_cut inside.kept.items t c.count_not_after-count.result c.count_not_after-count.ensures)
    ∙ ap (λ (l : TimelineState). next_stamp l.kept t) c.self.view_is

pub returns-clause-same : goal.returns-clause-same
returns-clause-same c = λ later le before.
    let inside = c.self.inside in
    let line : TimelineState = state_of_kept inside.kept.capacity inside.added inside.kept.items in
    let until = subst (λ (o : Option TimeStamp). IfSome o (λ stamp. later < moment_of stamp)) c.look_and_next.ensures.next before in
    ap (λ (l : TimelineState). mark_in l later) (sym c.self.view_is)
    ∙ mark_in_later line c.args.moment later c.count_not_after-count.result c.self.invariant.rising c.count_not_after-count.ensures le until
    ∙ sym c.look_and_next.ensures.mark

pub returns-clause-history : goal.returns-clause-history
returns-clause-history c = λ contexts e.
    let n = c.count_not_after-count.result in
    let t = c.args.moment in
    let inside = c.self.inside in
    let line : TimelineState = state_of_kept inside.kept.capacity inside.added inside.kept.items in
    let limit = c.args.self.now.limit in
    let whole : line ≡ state_of limit contexts = c.self.view_is ∙ e in
    let cut : IsPartitionPoint (moments (state_of limit contexts).kept) t n = subst (λ (l : TimelineState). IsPartitionPoint (moments l.kept) t n) whole c.count_not_after-count.ensures in
    let told : mark_of c.look_and_next.result.0 ≡ mark_at_cut (state_of limit contexts) n = c.look_and_next.ensures.mark ∙ ap (λ (l : TimelineState). mark_at_cut l n) whole in
    subst (λ (m : Mark). IsMark limit contexts t m) (sym told) (IsMark-cut limit contexts t n cut)
