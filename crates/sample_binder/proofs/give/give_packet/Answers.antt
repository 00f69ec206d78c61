use Rattle.std.proofs.Common.{ap, sym, ◌∙◌}
use Rattle.sample_binder.specs.GivenOut.{out_by}
use Rattle.sample_binder.proofs.GiveLemmas.{some_told}
use Rattle.sample_binder.proofs.give.give_packet.Goals as goal

pub returns-clause-packet : goal.returns-clause-packet
returns-clause-packet c = λ run.
    let leaves = some_told c.decide_first.new.leaving (sym c.decide_first.ensures.leaves ∙ c.if-not-decide_first.false) in
    record {
      packet = c.in-Some.packet;
      first = c.in-Some.ensures.items;
      packet_given = ap (λ given. out_by given run) c.given_of.ensures;
      decided = sym c.decide_first.ensures.leaving;
      now = leaves.0;
      leaves = leaves.1;
    }
