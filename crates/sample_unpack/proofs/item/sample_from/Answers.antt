use Rattle.std.proofs.Common.{◌∙◌, ap, sym, ap₂, ◌^◌, ℤ, FitsSigned, to_z-of_z, arith, rules}
use Rattle.std.specs.Int.{w16}
use Rattle.std.proofs.lemmas.Nat.{mod_below, pow_pos}
use Rattle.sample_unpack.specs.Bits.{bits_of, signed_number_of}
use Rattle.sample_unpack.specs.declared.sample.Sample.{Sample}
use Rattle.sample_unpack.proofs.Items.{low_mask, high_item, sample_of_items}
use Rattle.sample_unpack.proofs.item.sample_from.Goals as goal

pub signed-requires-clause-fits : goal.signed-requires-clause-fits
signed-requires-clause-fits c = high_item c.args.width c.args.items c.requires.fits

pub signed-requires-2-clause-fits : goal.signed-requires-2-clause-fits
signed-requires-2-clause-fits c =
    let e = low_mask c.args.width c.args.items (omega arith) in
    rw e (mod_below c.args.items (2 ^ c.args.width) (pow_pos c.args.width))

pub returns : goal.returns
returns c =
    let w = c.args.width in
    let sample : ℤ → ℤ → Sample = λ i q. record { i = i; q = q } in
    let first : FitsSigned w16 c.signed.result = search rules in
    let second : FitsSigned w16 c.signed-2.result = search rules in
    ap₂ sample
    (to_z-of_z first ∙ c.signed.ensures)
    (to_z-of_z second ∙ c.signed-2.ensures ∙ ap (λ n. signed_number_of (bits_of w n)) (low_mask w c.args.items (omega arith)))
    ∙ sym (sample_of_items w c.args.items)
