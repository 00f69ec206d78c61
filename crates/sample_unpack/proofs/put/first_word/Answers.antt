use Rattle.std.proofs.Common.{◌∙◌, ap, sym, ◌-◌, ◌/◌, ◌++◌, ◌^◌, arith}
use Rattle.std.proofs.lemmas.Nat.{shr_below, one_shl, and_mask}
use Rattle.std.specs.Int.RustNames.{bit_and}
use Rattle.sample_unpack.specs.Bits.{bits_of}
use Rattle.sample_unpack.proofs.Bits.{bits_of-add, bits_of-mod}
use Rattle.sample_unpack.proofs.put.first_word.Goals as goal

pub overflow_cast-result-2 : goal.overflow_cast-result-2
overflow_cast-result-2 c =
    let below = shr_below c.args.waiting 32 c.args.rest c.requires.fits in
    omega arith

pub returns-clause-split : goal.returns-clause-split
returns-clause-split c =
    let n = c.args.waiting in
    let rest = c.args.rest in
    bits_of-add 32 rest n
    ∙ ap (λ bs. bits_of 32 (n / 2 ^ rest) ++ bs)
    (sym (bits_of-mod rest n) ∙ ap (bits_of rest) (sym (and_mask n rest) ∙ ap (λ m. bit_and n (m - 1)) (sym (one_shl rest 64 (omega arith)))))
