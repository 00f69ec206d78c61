use Rattle.std.proofs.Common.{arith, refl}
use Rattle.release_form.specs.Steps.{IsNoRecord}
use Rattle.release_form.proofs.Told.{if_none, reason_at, run_source, reads_raw}
use Rattle.release_form.proofs.reading.read_raw.Goals as goal

pub returns-in_err-stream-clause-none : goal.returns-in_err-stream-clause-none
returns-in_err-stream-clause-none c =
    if_none _ (IsNoRecord c.args.bytes.now) (λ shown part h. c.in_err-stream.ensures.none _ _ _ (run_source shown part c.args.bytes.now (omega (arith, c.requires.kind)) h))

pub returns-clause-found : goal.returns-clause-found
returns-clause-found c =
    reads_raw _ _ _ _ _ _ _ c.requires.kind c.requires.length c.in_ok-stream.ensures.found
    (reason_at _ _ _ _ _ c.word_in.ensures c.word_in-2.ensures c.in_ok-reason.ensures.found) c.in_ok-stamp.ensures.stamp c.word_in-pad.ensures
    (c.if-not-is_of_packets.ensures.0 refl) (omega arith) (omega arith) (omega arith)
