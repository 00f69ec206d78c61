use Rattle.std.proofs.Common.{◌∙◌, ap, ◌^◌, ◌%◌, of_z, to_z-of_z, arith}
use Rattle.std.specs.Int.{w16}
use Rattle.std.proofs.lemmas.Nat.{mod_below, pow_pos}
use Rattle.sample_unpack.specs.Bits.{bits_of}
use Rattle.sample_unpack.proofs.Items.{low_mask}
use Rattle.sample_unpack.proofs.Packed.{low_signed_bits}
use Rattle.sample_unpack.proofs.item.item_of.Goals as goal

pub returns-clause-fits : goal.returns-clause-fits
returns-clause-fits c =
    let e = low_mask c.args.width c.from.result (omega arith) in
    rw e (mod_below c.from.result (2 ^ c.args.width) (pow_pos c.args.width))

pub returns-clause-item : goal.returns-clause-item
returns-clause-item c =
    ap (bits_of c.args.width) (low_mask c.args.width c.from.result (omega arith) ∙ ap (λ n. n % 2 ^ c.args.width) (c.from.ensures ∙ c.cast_unsigned.ensures ∙ ap (of_z w16) (to_z-of_z c.ranges.number)))
    ∙ low_signed_bits c.args.width c.args.number c.requires.most c.requires.number_fits
