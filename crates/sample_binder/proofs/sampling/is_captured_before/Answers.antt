use Rattle.std.proofs.Common.{◌≡◌, ◌+◌, ◌-◌, ◌*◌, ◌/◌, ◌^◌, ℕ, nat_lt, ap, ◌∙◌, arith}
use Rattle.vrt_time.specs.Time.{moment_of, capture_at}
use Rattle.sample_binder.proofs.ClockLemmas.{lt_by_product}
use Rattle.sample_binder.proofs.sampling.is_captured_before.Goals as goal

pub returns-then-end-start-2 : goal.returns-then-end-start-2
returns-then-end-start-2 c =
    let start : ℕ = c.picos-start.result in
    let end : ℕ = c.picos-end.result in
    let rate : ℕ = c.from-then-end-start-2.result in
    let part : ℕ = c.from.result * 1048576000000000000 in
    let periods : part ≡ c.args.sample * 10 ^ 12 * 2 ^ 20 = omega (arith, c.from.ensures) in
    let begins : start ≡ moment_of c.args.stamp = omega (arith, c.picos-start.ensures.number, c.moment.ensures.number) in
    let ends : end ≡ moment_of c.args.until = omega (arith, c.picos-end.ensures.number, c.moment-2.ensures.number) in
    let same : rate ≡ c.args.rate = c.from-then-end-start-2.ensures in
    lt_by_product start end (end - start) part rate (omega (arith, c.if-end-start.false)) (omega (arith, same, c.requires.least))
    ∙ ap (λ (p : ℕ). nat_lt (start + p / rate) end) periods
    ∙ ap (λ (r : ℕ). nat_lt (start + c.args.sample * 10 ^ 12 * 2 ^ 20 / r) end) same
    ∙ ap (λ (s : ℕ). nat_lt (s + c.args.sample * 10 ^ 12 * 2 ^ 20 / c.args.rate) end) begins
    ∙ ap (λ (e : ℕ). nat_lt (capture_at c.args.stamp c.args.sample c.args.rate) e) ends
