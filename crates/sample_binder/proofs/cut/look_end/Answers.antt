use Rattle.std.proofs.Common.{◌≡◌, ap, ◌∙◌, arith}
use Rattle.vrt_time.specs.Time.{moment_of, capture_at}
use Rattle.vrt_time.proofs.TimeLaws.{capture_at-le}
use Rattle.sample_binder.specs.Samples.{rate_in}
use Rattle.sample_binder.proofs.CutLemmas.{after_sample, earlier, is_passed, passed_before}
use Rattle.sample_binder.proofs.cut.look_end.Goals as goal

pub passed_by-requires-clause-later : goal.passed_by-requires-clause-later
passed_by-requires-clause-later c =
    let samples = c.args.samples.now in
    let late = after_sample c.args.timeline.now.kept samples c.args.sample c.captured-at.result c.rate_of.result c.look_until-until.result.1 c.look_until-until.ensures.until c.captured-at.ensures c.rate_of.ensures in
    earlier c.look_until-until.result.1 (moment_of samples.stamp) (capture_at samples.stamp c.args.sample (rate_in samples.fields)) (omega arith) late

pub returns-clause-later : goal.returns-clause-later
returns-clause-later c =
    let samples = c.args.samples.now in
    let late = after_sample c.args.timeline.now.kept samples c.args.sample c.captured-at.result c.rate_of.result c.look_until-until.result.1 c.look_until-until.ensures.until c.captured-at.ensures c.rate_of.ensures in
    is_passed samples c.look_until-until.result.1 c.passed_by.result c.args.sample c.passed_by.ensures c.requires.there late

pub returns-clause-same : goal.returns-clause-same
returns-clause-same c = λ m le lt.
    let samples = c.args.samples.now in
    let at : c.captured-at.result ≡ capture_at samples.stamp c.args.sample (rate_in samples.fields) = c.captured-at.ensures ∙ ap (λ r. capture_at samples.stamp c.args.sample r) c.rate_of.ensures in
    let below = passed_before samples c.look_until-until.result.1 c.passed_by.result m c.passed_by.ensures lt in
    let order = capture_at-le samples.stamp c.args.sample m (rate_in samples.fields) le (omega (arith, c.requires.sampling.least)) in
    c.look_until-until.ensures.same (capture_at samples.stamp m (rate_in samples.fields)) (omega (arith, at, order)) below
