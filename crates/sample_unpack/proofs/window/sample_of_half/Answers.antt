use Rattle.std.proofs.Common.{◌≡◌, ℤ, ◌+◌, ◌∙◌, ◌∷◌, ap, ap₂, sym, drop, get_or, FitsSigned, to_z-of_z, arith, rules}
use Rattle.std.specs.Int.{w8, w16}
use Rattle.std.proofs.lemmas.List.{drop_more}
use Rattle.sample_unpack.specs.Bits.{bits_of_bytes}
use Rattle.sample_unpack.specs.Samples.{sample_of}
use Rattle.sample_unpack.specs.declared.sample.Sample.{Sample}
use Rattle.sample_unpack.proofs.Bits.{drop-bits_of_bytes}
use Rattle.sample_unpack.proofs.Samples.{sample_of_two}
use Rattle.sample_unpack.proofs.window.sample_of_half.Goals as goal

pub returns : goal.returns
returns c =
    let payload = c.args.payload.now in
    let at = c.args.at in
    let first_byte = get_or payload at 0 in
    let second_byte = get_or payload (at + 1) 0 in
    let behind = drop (at + 1 + 1) payload in
    let made : ℤ → ℤ → Sample = λ i q. record { i = i; q = q } in
    let first : FitsSigned w16 c.from.result = search rules in
    let second : FitsSigned w16 c.from-2.result = search rules in
    let first_small : FitsSigned w8 c.cast_signed.result = search rules in
    let second_small : FitsSigned w8 c.cast_signed-2.result = search rules in
    let split : drop at payload ≡ first_byte ∷ second_byte ∷ behind =
    drop_more payload at 0 (omega arith) ∙ ap (λ bs. first_byte ∷ bs) (drop_more payload (at + 1) 0 (omega arith)) in
    ap₂ made
    (to_z-of_z first ∙ c.from.ensures ∙ to_z-of_z first_small ∙ c.cast_signed.ensures)
    (to_z-of_z second ∙ c.from-2.ensures ∙ to_z-of_z second_small ∙ c.cast_signed-2.ensures)
    ∙ sample_of_two first_byte second_byte behind (c.type_inv.payload at).fits (c.type_inv.payload (at + 1)).fits
    ∙ ap (λ bs. sample_of 8 (bits_of_bytes bs)) (sym split)
    ∙ ap (sample_of 8) (drop-bits_of_bytes at payload)
