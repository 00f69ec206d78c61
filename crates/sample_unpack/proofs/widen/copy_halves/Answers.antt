use Rattle.std.proofs.Common.{◌≡◌, ◌+◌, ◌-◌, ◌*◌, ◌/◌, ◌∙◌, sym, ap, length, take, drop, arith}
use Rattle.std.proofs.lemmas.Bool.Decides.{nat_tests}
use Rattle.std.proofs.lemmas.List.{take_all}
use Rattle.sample_unpack.specs.Bits.{bits_of_bytes}
use Rattle.sample_unpack.specs.Samples.{bits_of_samples, samples_from}
use Rattle.sample_unpack.proofs.Bits.{bits_of_bytes-nil}
use Rattle.sample_unpack.proofs.Widening.{copied}
use Rattle.sample_unpack.proofs.widen.copy_halves.Goals as goal

pub returns-then-not-is_empty : goal.returns-then-not-is_empty
returns-then-not-is_empty c =
    let payload = c.args.payload.now in
    let first = c.args.first in
    let number = length c.args.into.now / 4 in
    let size : 4 * first + length c.args.into.now - 4 * first ≡ 4 * number = omega (arith, c.requires.whole_samples) in
    ap bits_of_bytes (c.copy_from_slice.ensures.after ∙ ap (λ n. take n (drop (4 * first) payload)) size)
    ∙ copied first number payload c.requires.within

pub returns-else-not-is_empty : goal.returns-else-not-is_empty
returns-else-not-is_empty c =
    let old = c.args.into.now in
    let none : length old ≡ 0 = grind (arith, nat_tests) in
    let number : length old / 4 ≡ 0 = omega arith in
    ap bits_of_bytes (sym (take_all 0 old (omega arith)))
    ∙ bits_of_bytes-nil
    ∙ sym (ap (λ n. bits_of_samples 16 (samples_from 16 (bits_of_bytes c.args.payload.now) c.args.first n)) number)
