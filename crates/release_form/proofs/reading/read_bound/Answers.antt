use Rattle.std.proofs.Common.{arith, refl, ◌∙◌}
use Rattle.release_form.specs.Steps.{IsNoRecord}
use Rattle.release_form.proofs.Told.{if_none, run_source, bound_span, reads_bound}
use Rattle.release_form.proofs.reading.read_bound.Goals as goal

pub returns-in_err-stream-clause-none : goal.returns-in_err-stream-clause-none
returns-in_err-stream-clause-none c =
    if_none _ (IsNoRecord c.args.bytes.now) (λ shown part h. c.in_err-stream.ensures.none _ _ _ (run_source shown part c.args.bytes.now (omega (arith, c.requires.kind)) h))

pub returns-in_err-first-clause-none : goal.returns-in_err-first-clause-none
returns-in_err-first-clause-none c =
    if_none _ (IsNoRecord c.args.bytes.now) (λ shown part h. c.in_err-first.ensures.none _ _ (bound_span shown part c.args.bytes.now c.requires.kind h))

pub returns-clause-found : goal.returns-clause-found
returns-clause-found c =
    reads_bound _ _ _ _ _ _ _ _ _ c.requires.kind c.requires.length c.in_ok-stream.ensures.found c.in_ok-stamp.ensures.stamp c.in_ok-first.ensures.found
    (c.of-moment.ensures ∙ c.quadruple_in.ensures) c.read_words.ensures (c.if-not-are_fields.ensures.0 refl) (c.if-not-is_captured.ensures.0 refl)
