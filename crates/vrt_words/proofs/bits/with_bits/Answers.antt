-- The masks and shifts replace the field, and leave what lies above and below it.
use Rattle.std.proofs.Common.{◌+◌, ◌/◌, ◌%◌, ◌^◌, ◌∙◌, ap, arith}
use Rattle.vrt_words.specs.Words.{bits}
use Rattle.vrt_words.proofs.BitLemmas.{replaced, field-replaced, below-replaced, above-replaced}
use Rattle.vrt_words.proofs.bits.with_bits.Goals as goal

pub returns-clause-field : goal.returns-clause-field
returns-clause-field c =
    let a = c.args in
    ap (λ r. bits r a.low a.width) (replaced a.word a.low a.width a.value c.requires.within (omega arith) c.requires.fits)
    ∙ field-replaced a.word a.low a.width a.value c.requires.within (omega arith) c.requires.fits

pub returns-clause-below : goal.returns-clause-below
returns-clause-below c =
    let a = c.args in
    ap (λ r. r % 2 ^ a.low) (replaced a.word a.low a.width a.value c.requires.within (omega arith) c.requires.fits)
    ∙ below-replaced a.word a.low a.width a.value c.requires.within (omega arith) c.requires.fits

pub returns-clause-above : goal.returns-clause-above
returns-clause-above c =
    let a = c.args in
    ap (λ r. r / 2 ^ (a.low + a.width)) (replaced a.word a.low a.width a.value c.requires.within (omega arith) c.requires.fits)
    ∙ above-replaced a.word a.low a.width a.value c.requires.within (omega arith) c.requires.fits
