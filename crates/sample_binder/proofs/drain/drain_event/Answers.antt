use Rattle.std.proofs.Common.{◌≡◌, ◌+◌, true, length, sym, ap, ◌∙◌, subst}
use Rattle.context_timeline.specs.State.{TimelineState}
use Rattle.sample_binder.specs.Binder.{AreContextsSeen}
use Rattle.sample_binder.specs.Queue.{State}
use Rattle.sample_binder.proofs.DrainLemmas.{follows_end}
use Rattle.sample_binder.proofs.drain.drain_event.Goals as goal

pub returns-clause-drains : goal.returns-clause-drains
returns-clause-drains c =
    let none = c.drain_held.ensures.no_contexts c.if-drain_held.false in
    let empty = c.drain_held.ensures.no_packets c.if-drain_held.false in
    let held = c.drain_held.ensures.drains in
    let ended : State = c.end.new.self in
    let line : ended.line ≡ c.drain_held.new.binding.line = ap (λ (s : State). s.line) c.end.ensures.state in
    record {
      contexts_seen = λ kept given s. subst (λ (l : TimelineState). AreContextsSeen kept given c.drain_held.new.contexts l true) (sym line) (held.contexts_seen kept given s);
      packets_seen = held.packets_seen;
      follows = λ limits calls taken h.
          follows_end limits c.drain_held.new.contexts c.drain_held.new.packets c.drain_held.new.binding ended calls taken none empty c.drain_held.ensures.running (ap (λ (s : State). s.ended) c.end.ensures.state)
          (λ events s. c.end.ensures.history limits events taken s)
          (held.follows limits calls taken h);
      context_size = held.context_size;
      data_size = held.data_size;
      pending = ap (λ (s : State). s.pending) c.end.ensures.state ∙ held.pending;
      kept = ap (λ (s : State). length c.drain_held.new.packets.held + length s.queue) c.end.ensures.state ∙ held.kept;
    }
