use Rattle.std.proofs.Common.{◌≡◌, ◌∙◌, sym, ap, of_z, FitsSigned, to_z-of_z, arith, rules}
use Rattle.std.specs.Int.{w8, w16}
use Rattle.std.proofs.lemmas.Int.{ints}
use Rattle.sample_unpack.specs.Bits.{bits_of, signed_bits_of, signed_number_of, FitsBits}
use Rattle.sample_unpack.proofs.Bits.{bits_of-mod}
use Rattle.sample_unpack.proofs.Samples.{signed_byte}
use Rattle.sample_unpack.proofs.Packed.{low_signed_bits}
use Rattle.sample_unpack.proofs.widen.widened_byte.Goals as goal

pub returns : goal.returns
returns c =
    let number = c.from.result in
    let byte : FitsSigned w8 c.cast_signed.result = search rules in
    let fits : FitsSigned w16 number = search rules in
    let same : number ≡ signed_number_of (bits_of 8 c.args.byte) =
    c.from.ensures ∙ to_z-of_z byte ∙ c.cast_signed.ensures ∙ signed_byte c.args.byte c.ranges.byte.fits in
    let spelled : FitsBits 16 number = (omega (arith, ints), omega (arith, ints)) in
    ap (bits_of 16) (c.cast_unsigned.ensures ∙ ap (of_z w16) (to_z-of_z fits))
    ∙ sym (bits_of-mod 16 (of_z w16 number))
    ∙ low_signed_bits 16 number (omega arith) spelled
    ∙ ap (signed_bits_of 16) same
