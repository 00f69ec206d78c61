use Rattle.std.proofs.Common.{◌≡◌, ℕ, ◌+◌, ◌-◌, ◌*◌, ◌/◌, ◌%◌, ◌<◌, ◌≤◌, ◌++◌, ◌∙◌, ap, ap₂, length, take, drop, arith}
use Rattle.std.proofs.lemmas.List.{take_at, length-append, length-drop, length-take-le}
use Rattle.sample_unpack.specs.Bits.{bits_of_bytes}
use Rattle.sample_unpack.specs.Samples.{samples_from}
use Rattle.sample_unpack.proofs.Samples.{fours_begin, fours_fit, parts_joined, written_rest, length_rest}
use Rattle.sample_unpack.proofs.unpack.unpack_items.Goals as goal

pub unpack_fours-requires-clause-within : goal.unpack_fours-requires-clause-within
unpack_fours-requires-clause-within c some =
    let width = c.args.width in
    let first = c.args.first in
    let old = c.args.into.now in
    let lead = c.min-lead.result in
    let within : lead ≤ length old = omega (arith, c.min-lead.ensures) in
    let front : length c.unpack_each.new.into ≡ lead = c.unpack_each.auto.into ∙ length-take-le lead old within in
    let now = c.unpack_each.new.into ++ drop lead old in
    let size : length now ≡ length old = omega (arith, length-append c.unpack_each.new.into (drop lead old), length-drop lead old) in
    let count : length (take (length now - lead) (drop lead now)) ≡ length old - lead = length_rest lead now ∙ ap (λ n. n - lead) size in
    let left : 0 < length old - lead = omega arith in
    let place : 8 * ((c.from-3.result + 3) / 4 * c.from-4.result) ≡ 2 * width * first + 2 * width * lead =
    ap₂ (λ (x y : ℕ). 8 * ((x + 3) / 4 * y)) c.from-3.ensures c.from-4.ensures ∙ fours_begin width first (length old) lead c.min-lead.ensures left in
    let fit = fours_fit width first (length old) lead (8 * ((c.from-3.result + 3) / 4 * c.from-4.result)) (length c.args.payload.now) within place (c.requires.within (omega arith)) in
    rw count fit

pub returns : goal.returns
returns c =
    let bits = bits_of_bytes c.args.payload.now in
    let width = c.args.width in
    let first = c.args.first in
    let old = c.args.into.now in
    let lead = c.min-lead.result in
    let within : lead ≤ length old = omega (arith, c.min-lead.ensures) in
    let head = c.unpack_each.new.into in
    let front : length head ≡ lead = c.unpack_each.auto.into ∙ length-take-le lead old within in
    let now = head ++ drop lead old in
    let size : length now ≡ length old = omega (arith, length-append head (drop lead old), length-drop lead old) in
    let count : length (take (length now - lead) (drop lead now)) ≡ length old - lead = length_rest lead now ∙ ap (λ n. n - lead) size in
    let product = c.from.result * c.from-2.result in
    let start = 8 * (product / 8) + product % 8 in
    let begin : start ≡ 2 * width * first =
    let whole : start ≡ product = omega arith in whole ∙ ap₂ (λ (x y : ℕ). x * y) c.from.ensures c.from-2.ensures in
    let place = 8 * ((c.from-3.result + 3) / 4 * c.from-4.result) in
    written_rest lead now c.unpack_fours.new.into (omega arith)
    ∙ ap (λ xs. xs ++ c.unpack_fours.new.into) (take_at head (drop lead old) lead front)
    ∙ parts_joined width bits first (length old) lead start place head c.unpack_fours.new.into begin within
    (λ left. ap₂ (λ (x y : ℕ). 8 * ((x + 3) / 4 * y)) c.from-3.ensures c.from-4.ensures ∙ fours_begin width first (length old) lead c.min-lead.ensures left)
    (c.unpack_each.ensures ∙ ap (samples_from width (drop start bits) 0) (length-take-le lead old within))
    (c.unpack_fours.ensures ∙ ap (samples_from width (drop place bits) 0) count)
