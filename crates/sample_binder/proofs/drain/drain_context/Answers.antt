use Rattle.std.proofs.Common.{true, sym, ap, ◌∙◌, subst, arith}
use Rattle.context_timeline.specs.State.{TimelineState}
use Rattle.sample_binder.specs.Binder.{AreContextsSeen}
use Rattle.sample_binder.specs.Queue.{State}
use Rattle.sample_binder.proofs.BinderLemmas.{added_within}
use Rattle.sample_binder.proofs.DrainLemmas.{later_drained, seen_drained, follows_drained}
use Rattle.sample_binder.proofs.drain.drain_context.Goals as goal

pub give_context-requires-clause-later : goal.give_context-requires-clause-later
give_context-requires-clause-later c =
    later_drained c.args.contexts.now c.drain_one.new.self c.args.binding.now.line c.in-Some.released c.in-Some.ensures.size c.in-Some.ensures.given c.in-Some.ensures.stands c.requires.seen c.accepted_are_arrivals.ensures.falling

pub give_context-requires-clause-room : goal.give_context-requires-clause-room
give_context-requires-clause-room c =
    let s = c.requires.seen in
    omega (arith, added_within s.kept s.given c.args.contexts.now c.args.binding.now.line true s.seen, s.few)

pub returns-in-Some-clause-seen : goal.returns-in-Some-clause-seen
returns-in-Some-clause-seen c = λ kept given s.
    subst (λ (l : TimelineState). AreContextsSeen kept given c.drain_one.new.self l true) (sym (ap (λ (st : State). st.line) c.give_context.ensures.state))
    (seen_drained c.args.contexts.now c.drain_one.new.self c.args.binding.now.line c.in-Some.released c.in-Some.ensures.size c.in-Some.ensures.given c.in-Some.ensures.stands kept given s)

pub returns-in-Some-clause-follows : goal.returns-in-Some-clause-follows
returns-in-Some-clause-follows c = λ limits packets calls taken h.
    follows_drained c.args.contexts.now c.drain_one.new.self c.args.binding.now.line c.in-Some.released c.in-Some.ensures.size c.in-Some.ensures.given c.in-Some.ensures.stands
    limits packets c.args.binding.now c.give_context.new.binding calls taken c.requires.running (ap (λ (st : State). st.ended) c.give_context.ensures.state ∙ c.requires.running)
    (λ events s. c.give_context.ensures.history limits events taken s) h
