use Rattle.std.proofs.Common.{refl, sym, ap, ◌∙◌}
use Rattle.record_run.proofs.Sent.{sent_on, sent_dropped, same_sent}
use Rattle.record_run.proofs.outgoing.Outgoing.send.Goals as goal
use Rattle.record_run.proofs.outgoing.Outgoing.send.Goals.{then-not-self, else-not-self}

pub returns-clause-sent : goal.returns-clause-sent
returns-clause-sent g c = λ start before text s. elim c.if-not-self.branch [
  | then-not-self w ↦
      let waits = same_sent _ _ start _ _ before _ _ _ w.as_slice.result.now text (sym w.if-not-self.true) refl refl w.as_slice.ensures s in
      let sent = sent_on w.write_all.result start _ _ before _ _ _ text waits w.write_all.ensures.all w.write_all.ensures.front w.write_all.ensures.cause in
      same_sent _ _ start _ _ before _ _ _ _ text (ap (λ r. r.failed) w.self-is ∙ w.is_err-self.ensures.value) (ap g.K.Sink.held w.sink-is) (ap g.K.Sink.faults w.sink-is) c.clear.ensures sent
  | else-not-self w ↦
      sent_dropped _ _ start _ _ before _ _ _ _ text w.if-not-self.false (ap (λ r. r.failed) w.self-is) (ap g.K.Sink.held w.sink-is) (ap g.K.Sink.faults w.sink-is) s
]
