use Rattle.std.proofs.Common.{ap, ◌∙◌}
use Rattle.sample_binder.specs.Queue.{State}
use Rattle.sample_binder.proofs.DrainLemmas.{front_drained, follows_data_drained}
use Rattle.sample_binder.proofs.drain.drain_data.Goals as goal

pub give_data-requires-clause-front : goal.give_data-requires-clause-front
give_data-requires-clause-front c =
    front_drained c.args.packets.now c.drain_one.new.self c.in-Some.released c.in-Some.ensures.size c.in-Some.ensures.given c.in-Some.ensures.stands c.requires.seen

pub returns-in-Some-clause-follows : goal.returns-in-Some-clause-follows
returns-in-Some-clause-follows c = λ limits contexts calls taken none h.
    follows_data_drained c.args.packets.now c.drain_one.new.self c.in-Some.released c.in-Some.ensures.size c.in-Some.ensures.given c.in-Some.ensures.stands
    limits contexts c.args.binding.now c.give_data.new.binding calls taken none c.requires.running (ap (λ (st : State). st.ended) c.give_data.ensures.state ∙ c.requires.running)
    (λ events s. c.give_data.ensures.history limits events taken s) h
