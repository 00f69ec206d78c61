use Rattle.std.proofs.Common.{List, ℕ, ◌∙◌, ap, ap₂, ◌++◌, FitsSigned, to_z-of_z, arith, rules}
use Rattle.std.specs.Int.{w16}
use Rattle.sample_unpack.specs.Bits.{bits_of, signed_bits_of}
use Rattle.sample_unpack.proofs.Items.{double_is}
use Rattle.sample_unpack.proofs.Packed.{joins}
use Rattle.sample_unpack.proofs.item.items_of.Goals as goal

pub returns-clause-fits : goal.returns-clause-fits
returns-clause-fits c =
    let w = c.args.width in
    let j = joins w w 32 c.item_of.result c.item_of-2.result (omega arith) c.item_of.ensures.fits c.item_of-2.ensures.fits in
    let e = double_is w in
    rw (j.value, e) j.fits

pub returns-clause-items : goal.returns-clause-items
returns-clause-items c =
    let w = c.args.width in
    let j = joins w w 32 c.item_of.result c.item_of-2.result (omega arith) c.item_of.ensures.fits c.item_of-2.ensures.fits in
    let first : FitsSigned w16 c.args.sample.i = search rules in
    let second : FitsSigned w16 c.args.sample.q = search rules in
    ap₂ bits_of (double_is w) j.value
    ∙ j.joined
    ∙ ap₂ (λ (x y : List ℕ). x ++ y)
    (c.item_of.ensures.item ∙ ap (signed_bits_of w) (to_z-of_z first))
    (c.item_of-2.ensures.item ∙ ap (signed_bits_of w) (to_z-of_z second))
