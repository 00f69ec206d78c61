-- There is a mask of fields for each number of words, and for each number of fields.
use Rattle.std.proofs.Common.{◌≡◌, ℕ, zero, suc, ◌+◌, ◌*◌, ◌<◌, ◌≤◌, ◌^◌, List, [], ◌∷◌, sum_by, refl, ap, ◌∙◌, lit<, lit≤, arith}
use Rattle.std.proofs.lemmas.List.Sums.{sum_by-cons}
use Rattle.vrt_fields.specs.declared.field.Field.{Field}
use Rattle.vrt_fields.specs.declared.field.Field.TheVariants.{ReferencePoint, Bandwidth, IfReference, RfReference, IfOffset, ReferenceLevel, Gain, SampleRate, TimeAdjustment, Calibration, State, Format}
use Rattle.vrt_fields.specs.Field.{bit_of, width_of, fields_in_order}
use Rattle.vrt_fields.specs.FieldSet.{IsFieldMask, bit_in, width_of_mask, number_in_mask}

-- a mask of fields that take so many words
pub record MaskOfWidth (width : ℕ) : Type 0 where
  pub mask : ℕ
  pub only : IsFieldMask mask
  pub below : mask < 2 ^ 31
  pub wide : width_of_mask mask ≡ width

-- a mask of so many fields
pub record MaskOfNumber (number : ℕ) : Type 0 where
  pub mask : ℕ
  pub only : IsFieldMask mask
  pub below : mask < 2 ^ 31
  pub many : number_in_mask mask ≡ number

pub mask_of_width : (width : ℕ) → width ≤ 19 → MaskOfWidth width
mask_of_width zero h = record { mask = 0x00000000; only = refl; below = lit< tt; wide = refl }
mask_of_width (suc zero) h = record { mask = 0x40000000; only = refl; below = lit< tt; wide = refl }
mask_of_width (suc (suc zero)) h = record { mask = 0x20000000; only = refl; below = lit< tt; wide = refl }
mask_of_width (suc (suc (suc zero))) h = record { mask = 0x60000000; only = refl; below = lit< tt; wide = refl }
mask_of_width (suc (suc (suc (suc zero)))) h = record { mask = 0x30000000; only = refl; below = lit< tt; wide = refl }
mask_of_width (suc (suc (suc (suc (suc zero))))) h = record { mask = 0x70000000; only = refl; below = lit< tt; wide = refl }
mask_of_width (suc (suc (suc (suc (suc (suc zero)))))) h = record { mask = 0x38000000; only = refl; below = lit< tt; wide = refl }
mask_of_width (suc (suc (suc (suc (suc (suc (suc zero))))))) h = record { mask = 0x78000000; only = refl; below = lit< tt; wide = refl }
mask_of_width (suc (suc (suc (suc (suc (suc (suc (suc zero)))))))) h = record { mask = 0x3A000000; only = refl; below = lit< tt; wide = refl }
mask_of_width (suc (suc (suc (suc (suc (suc (suc (suc (suc zero))))))))) h = record { mask = 0x7A000000; only = refl; below = lit< tt; wide = refl }
mask_of_width (suc (suc (suc (suc (suc (suc (suc (suc (suc (suc zero)))))))))) h = record { mask = 0x3A200000; only = refl; below = lit< tt; wide = refl }
mask_of_width (suc (suc (suc (suc (suc (suc (suc (suc (suc (suc (suc zero))))))))))) h = record { mask = 0x7A200000; only = refl; below = lit< tt; wide = refl }
mask_of_width (suc (suc (suc (suc (suc (suc (suc (suc (suc (suc (suc (suc zero)))))))))))) h = record { mask = 0x3A300000; only = refl; below = lit< tt; wide = refl }
mask_of_width (suc (suc (suc (suc (suc (suc (suc (suc (suc (suc (suc (suc (suc zero))))))))))))) h = record { mask = 0x7A300000; only = refl; below = lit< tt; wide = refl }
mask_of_width (suc (suc (suc (suc (suc (suc (suc (suc (suc (suc (suc (suc (suc (suc zero)))))))))))))) h = record { mask = 0x3A308000; only = refl; below = lit< tt; wide = refl }
mask_of_width (suc (suc (suc (suc (suc (suc (suc (suc (suc (suc (suc (suc (suc (suc (suc zero))))))))))))))) h = record { mask = 0x7A308000; only = refl; below = lit< tt; wide = refl }
mask_of_width (suc (suc (suc (suc (suc (suc (suc (suc (suc (suc (suc (suc (suc (suc (suc (suc zero)))))))))))))))) h = record { mask = 0x7B308000; only = refl; below = lit< tt; wide = refl }
mask_of_width (suc (suc (suc (suc (suc (suc (suc (suc (suc (suc (suc (suc (suc (suc (suc (suc (suc zero))))))))))))))))) h = record { mask = 0x7BB08000; only = refl; below = lit< tt; wide = refl }
mask_of_width (suc (suc (suc (suc (suc (suc (suc (suc (suc (suc (suc (suc (suc (suc (suc (suc (suc (suc zero)))))))))))))))))) h = record { mask = 0x7BB88000; only = refl; below = lit< tt; wide = refl }
mask_of_width (suc (suc (suc (suc (suc (suc (suc (suc (suc (suc (suc (suc (suc (suc (suc (suc (suc (suc (suc zero))))))))))))))))))) h = record { mask = 0x7BB98000; only = refl; below = lit< tt; wide = refl }
mask_of_width (suc (suc (suc (suc (suc (suc (suc (suc (suc (suc (suc (suc (suc (suc (suc (suc (suc (suc (suc (suc n)))))))))))))))))))) h = absurd (omega arith)

pub mask_of_number : (number : ℕ) → number ≤ 12 → MaskOfNumber number
mask_of_number zero h = record { mask = 0x00000000; only = refl; below = lit< tt; many = refl }
mask_of_number (suc zero) h = record { mask = 0x40000000; only = refl; below = lit< tt; many = refl }
mask_of_number (suc (suc zero)) h = record { mask = 0x60000000; only = refl; below = lit< tt; many = refl }
mask_of_number (suc (suc (suc zero))) h = record { mask = 0x70000000; only = refl; below = lit< tt; many = refl }
mask_of_number (suc (suc (suc (suc zero)))) h = record { mask = 0x78000000; only = refl; below = lit< tt; many = refl }
mask_of_number (suc (suc (suc (suc (suc zero))))) h = record { mask = 0x7A000000; only = refl; below = lit< tt; many = refl }
mask_of_number (suc (suc (suc (suc (suc (suc zero)))))) h = record { mask = 0x7B000000; only = refl; below = lit< tt; many = refl }
mask_of_number (suc (suc (suc (suc (suc (suc (suc zero))))))) h = record { mask = 0x7B800000; only = refl; below = lit< tt; many = refl }
mask_of_number (suc (suc (suc (suc (suc (suc (suc (suc zero)))))))) h = record { mask = 0x7BA00000; only = refl; below = lit< tt; many = refl }
mask_of_number (suc (suc (suc (suc (suc (suc (suc (suc (suc zero))))))))) h = record { mask = 0x7BB00000; only = refl; below = lit< tt; many = refl }
mask_of_number (suc (suc (suc (suc (suc (suc (suc (suc (suc (suc zero)))))))))) h = record { mask = 0x7BB80000; only = refl; below = lit< tt; many = refl }
mask_of_number (suc (suc (suc (suc (suc (suc (suc (suc (suc (suc (suc zero))))))))))) h = record { mask = 0x7BB90000; only = refl; below = lit< tt; many = refl }
mask_of_number (suc (suc (suc (suc (suc (suc (suc (suc (suc (suc (suc (suc zero)))))))))))) h = record { mask = 0x7BB98000; only = refl; below = lit< tt; many = refl }
mask_of_number (suc (suc (suc (suc (suc (suc (suc (suc (suc (suc (suc (suc (suc n))))))))))))) h = absurd (omega arith)

-- ---- only the mask of no fields takes no words

some_width : (field : Field) → 1 ≤ width_of field
some_width ReferencePoint = lit≤ tt
some_width Bandwidth = lit≤ tt
some_width IfReference = lit≤ tt
some_width RfReference = lit≤ tt
some_width IfOffset = lit≤ tt
some_width ReferenceLevel = lit≤ tt
some_width Gain = lit≤ tt
some_width SampleRate = lit≤ tt
some_width TimeAdjustment = lit≤ tt
some_width Calibration = lit≤ tt
some_width State = lit≤ tt
some_width Format = lit≤ tt

no_bit : (bit width : ℕ) → 1 ≤ width → bit * width ≡ 0 → bit ≡ 0
no_bit zero width some e = refl
no_bit (suc bit) width some e = absurd (omega arith)

no_bits : (mask : ℕ) (fields : List Field) → sum_by (λ f. bit_in mask f * width_of f) fields ≡ 0 → sum_by (λ f. bit_in mask f * 2 ^ bit_of f) fields ≡ 0
no_bits mask [] e = refl
no_bits mask (field ∷ fields) e =
    let sum = sum_by-cons (λ f. bit_in mask f * width_of f) field fields in
    let none : bit_in mask field ≡ 0 = no_bit (bit_in mask field) (width_of field) (some_width field) (omega (arith, sum)) in
    let rest = no_bits mask fields (omega (arith, sum)) in
    sum_by-cons (λ f. bit_in mask f * 2 ^ bit_of f) field fields ∙ ap (λ n. n * 2 ^ bit_of field + sum_by (λ f. bit_in mask f * 2 ^ bit_of f) fields) none ∙ omega (arith, rest)

pub no_width : (mask : ℕ) → IsFieldMask mask → width_of_mask mask ≡ 0 → mask ≡ 0
no_width mask only e = only ∙ no_bits mask fields_in_order e
