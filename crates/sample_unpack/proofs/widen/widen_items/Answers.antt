use Rattle.std.proofs.Common.{◌≡◌, ℕ, ◌+◌, ◌-◌, ◌*◌, ◌/◌, ◌%◌, ◌<◌, ◌≤◌, ◌++◌, ◌∙◌, sym, ap, ap₂, length, take, drop, arith}
use Rattle.std.proofs.lemmas.List.{take_at, length-append, length-drop, length-take-le}
use Rattle.sample_unpack.specs.Bits.{bits_of_bytes}
use Rattle.sample_unpack.proofs.Samples.{fours_begin, fours_fit, length_rest}
use Rattle.sample_unpack.proofs.Widening.{wide, wide_rest, wide_from}
use Rattle.sample_unpack.proofs.widen.widen_items.Goals as goal

pub widen_fours-requires-clause-within : goal.widen_fours-requires-clause-within
widen_fours-requires-clause-within c some =
    let w = c.args.width in
    let first = c.args.first in
    let old = c.args.into.now in
    let number = length old / 4 in
    let lead = c.min-lead.result in
    let most : lead ≤ number = omega (arith, c.min-lead.ensures) in
    let within : 4 * lead ≤ length old = omega arith in
    let front : length c.widen_each.new.into ≡ 4 * lead = c.widen_each.auto.into ∙ length-take-le (4 * lead) old within in
    let now = c.widen_each.new.into ++ drop (4 * lead) old in
    let size : length now ≡ length old = omega (arith, length-append c.widen_each.new.into (drop (4 * lead) old), length-drop (4 * lead) old) in
    let rest : length (take (length now - 4 * lead) (drop (4 * lead) now)) ≡ length old - 4 * lead = length_rest (4 * lead) now ∙ ap (λ n. n - 4 * lead) size in
    let left : 0 < number - lead = omega (arith, c.requires.whole_samples) in
    let count : (length old - 4 * lead) / 4 ≡ number - lead = omega arith in
    let place : 8 * ((c.from-3.result + 3) / 4 * c.from-4.result) ≡ 2 * w * first + 2 * w * lead =
    ap₂ (λ (x y : ℕ). 8 * ((x + 3) / 4 * y)) c.from-3.ensures c.from-4.ensures ∙ fours_begin w first number lead c.min-lead.ensures left in
    let fit = fours_fit w first number lead (8 * ((c.from-3.result + 3) / 4 * c.from-4.result)) (length c.args.payload.now) most place (c.requires.within (omega arith)) in
    rw (rest, count) fit

pub returns : goal.returns
returns c =
    let bits = bits_of_bytes c.args.payload.now in
    let w = c.args.width in
    let first = c.args.first in
    let old = c.args.into.now in
    let number = length old / 4 in
    let lead = c.min-lead.result in
    let most : lead ≤ number = omega (arith, c.min-lead.ensures) in
    let within : 4 * lead ≤ length old = omega arith in
    let head = c.widen_each.new.into in
    let front : length head ≡ 4 * lead = c.widen_each.auto.into ∙ length-take-le (4 * lead) old within in
    let now = head ++ drop (4 * lead) old in
    let size : length now ≡ length old = omega (arith, length-append head (drop (4 * lead) old), length-drop (4 * lead) old) in
    let rest : length (take (length now - 4 * lead) (drop (4 * lead) now)) ≡ length old - 4 * lead = length_rest (4 * lead) now ∙ ap (λ n. n - 4 * lead) size in
    let count : (length old - 4 * lead) / 4 ≡ number - lead = omega arith in
    let product = c.from.result * c.from-2.result in
    let start = 8 * (product / 8) + product % 8 in
    let begin : start ≡ 2 * w * first =
    let whole : start ≡ product = omega arith in whole ∙ ap₂ (λ (x y : ℕ). x * y) c.from.ensures c.from-2.ensures in
    let place = 8 * ((c.from-3.result + 3) / 4 * c.from-4.result) in
    let leads : length (take (4 * lead) old) / 4 ≡ lead = ap (λ n. n / 4) (length-take-le (4 * lead) old within) ∙ omega arith in
    let all : lead + (number - lead) ≡ number = omega arith in
    wide_rest w bits start place (4 * lead) lead (number - lead) now c.widen_fours.new.into (omega (arith, size))
    (ap bits_of_bytes (take_at head (drop (4 * lead) old) (4 * lead) front) ∙ c.widen_each.ensures ∙ ap (wide w bits start) leads)
    (c.widen_fours.ensures ∙ ap (wide w bits place) (ap (λ n. n / 4) rest ∙ count))
    (λ left. ap₂ (λ (x y : ℕ). 8 * ((x + 3) / 4 * y)) c.from-3.ensures c.from-4.ensures ∙ fours_begin w first number lead c.min-lead.ensures left ∙ ap (λ n. n + 2 * w * lead) (sym begin))
    ∙ ap (wide w bits start) all
    ∙ wide_from w bits first start number begin
