use Rattle.record_run.proofs.Going.{put_nothing, put_next}
use Rattle.record_run.proofs.reading.settle.Goals as goal

pub loop-init : goal.loop-init
loop-init g c = record {
  started = c.requires;
  put = put_nothing _ _;
}

pub loop-preserved : goal.loop-preserved
loop-preserved g c = record {
  started = c.next.ensures.started;
  put = put_next _ _ _ _ _ _ _ c.loop.invariant.put c.send_if_full.ensures.sent c.next.ensures.keeps c.next.ensures.told;
}

pub returns-then-not-next-clause-put : goal.returns-then-not-next-clause-put
returns-then-not-next-clause-put g c =
    put_next _ _ _ _ _ _ _ c.loop.invariant.put c.send_if_full.ensures.sent c.next.ensures.keeps c.next.ensures.told
