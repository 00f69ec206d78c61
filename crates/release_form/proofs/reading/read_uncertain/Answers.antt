use Rattle.std.proofs.Common.{arith, refl, ◌∙◌}
use Rattle.release_form.specs.Steps.{IsNoRecord}
use Rattle.release_form.proofs.Told.{if_none, reason_at, run_source, uncertain_span, reads_uncertain}
use Rattle.release_form.proofs.reading.read_uncertain.Goals as goal

pub returns-in_err-stream-clause-none : goal.returns-in_err-stream-clause-none
returns-in_err-stream-clause-none c =
    if_none _ (IsNoRecord c.args.bytes.now) (λ shown part h. c.in_err-stream.ensures.none _ _ _ (run_source shown part c.args.bytes.now (omega (arith, c.requires.kind)) h))

pub returns-in_err-first-clause-none : goal.returns-in_err-first-clause-none
returns-in_err-first-clause-none c =
    if_none _ (IsNoRecord c.args.bytes.now) (λ shown part h. c.in_err-first.ensures.none _ _ (uncertain_span shown part c.args.bytes.now c.requires.kind h))

pub returns-clause-found : goal.returns-clause-found
returns-clause-found c =
    let fits = c.if-not-is_of_samples.ensures.0 refl in
    reads_uncertain _ _ _ _ _ _ _ _ _ c.requires.kind c.requires.length c.in_ok-stream.ensures.found
    (reason_at _ _ _ _ _ c.word_in.ensures c.word_in-2.ensures c.in_ok-reason.ensures.found) c.in_ok-stamp.ensures.stamp c.in_ok-first.ensures.found
    (c.of-2.ensures ∙ c.quadruple_in.ensures) fits.0 fits.1
