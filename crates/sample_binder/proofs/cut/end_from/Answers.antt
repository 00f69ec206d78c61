use Rattle.std.proofs.Common.{◌≡◌, sym, ap, ◌∙◌, inl, inr, arith}
use Rattle.std.proofs.lemmas.Bool.{cases_lt}
use Rattle.sample_binder.specs.Runs.{label_at, label_by, same_label}
use Rattle.sample_binder.proofs.cut.end_from.Goals as goal

pub loop-end-preserved : goal.loop-end-preserved
loop-end-preserved c =
    let next = c.look_end-next in
    let samples = c.args.samples.now in
    record {
      later = omega (arith, c.loop-end.invariant.later, next.ensures.later);
      within = next.ensures.within;
      alike = λ m le lt. elim (cases_lt m c.loop-end.end) [
        | inl before ↦ c.loop-end.invariant.alike m le before
        | inr behind ↦
            let label : label_at c.args.timeline.now c.args.why samples.stamp samples.fields m ≡ c.label_of-other.result =
            ap (label_by samples.fields c.args.why) (next.ensures.same m behind lt) ∙ sym c.label_of-other.ensures in
            ap (same_label c.label_of-label.result) label ∙ sym c.is_same.ensures ∙ c.if-not-is_same.false
      ];
    }
