use Rattle.std.proofs.Common.{arith, ◌∙◌, refl}
use Rattle.release_form.proofs.Told.{reads_refused, late_obeys, other_obeys}
use Rattle.release_form.proofs.reading.read_refused.Goals as goal

pub returns-then-is_late-clause-found : goal.returns-then-is_late-clause-found
returns-then-is_late-clause-found c =
    reads_refused _ _ _ _ _ _ c.requires.kind c.requires.length (omega arith) c.double_in-frame.ensures c.in_ok-port.ensures.port
    (c.number-reason.ensures ∙ c.in_ok-refusal.ensures.found ∙ c.word_in.ensures)
    c.word_in-detail.ensures c.in_ok-stamp.ensures.stamp
    (late_obeys _ _ c.in_ok-refusal.refusal _ (omega arith) c.number-reason.ensures (c.if-is_late.ensures.0 refl))

pub returns-clause-found : goal.returns-clause-found
returns-clause-found c =
    reads_refused _ _ _ _ _ _ c.requires.kind c.requires.length (omega arith) c.double_in-frame.ensures c.in_ok-port.ensures.port
    (c.number-reason.ensures ∙ c.in_ok-refusal.ensures.found ∙ c.word_in.ensures)
    c.word_in-detail.ensures (cc (c.word_in-2.ensures, c.double_in.ensures))
    (other_obeys _ _ c.in_ok-refusal.refusal (omega arith) c.number-reason.ensures (λ e. absurd (let t = c.if-is_late.ensures.1 e in cc)))
