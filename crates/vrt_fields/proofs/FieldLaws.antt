-- Laws of the table of fields, and of sets by field.
use Rattle.std.proofs.Common.{◌≡◌, ◌≢◌, ℕ, zero, suc, ◌+◌, ◌<◌, ◌≤◌, ◌↔◌, List, [], ◌∷◌, length, take, get_or, sum_by, Option, Some, None, if◌then◌else◌, ◌==◌, refl, sym, ap, ◌∙◌, subst, arith}
use Rattle.std.proofs.lemmas.List.{ext_get_or}
use Rattle.std.proofs.lemmas.List.Sums.{sum_by-cons}
use Rattle.vrt_fields.specs.declared.field.Field.{Field}
use Rattle.vrt_fields.specs.declared.field.Field.TheVariants.{ReferencePoint, Bandwidth, IfReference, RfReference, IfOffset, ReferenceLevel, Gain, SampleRate, TimeAdjustment, Calibration, State, Format}
use Rattle.vrt_fields.specs.Field.{width_of, place_of, fields_in_order}
use Rattle.vrt_fields.specs.FieldSet.{FieldValues, IsFieldSet, bit_in, index_of, mask_of, value_of}
use Rattle.vrt_fields.proofs.FieldSetLaws.{flag, mask_bit}

-- the field that begins at a place, and any field for another number
abbrev field_from : ℕ → Field
field_from place =
    if place == 0 then ReferencePoint
    else if place == 1 then Bandwidth
    else if place == 3 then IfReference
    else if place == 5 then RfReference
    else if place == 7 then IfOffset
    else if place == 9 then ReferenceLevel
    else if place == 10 then Gain
    else if place == 11 then SampleRate
    else if place == 13 then TimeAdjustment
    else if place == 15 then Calibration
    else if place == 16 then State
    else Format

found_again : (field : Field) → field_from (place_of field) ≡ field
found_again ReferencePoint = refl
found_again Bandwidth = refl
found_again IfReference = refl
found_again RfReference = refl
found_again IfOffset = refl
found_again ReferenceLevel = refl
found_again Gain = refl
found_again SampleRate = refl
found_again TimeAdjustment = refl
found_again Calibration = refl
found_again State = refl
found_again Format = refl

-- no two fields have one place
pub one_place : (f g : Field) → place_of f ≡ place_of g → f ≡ g
one_place f g e = sym (found_again f) ∙ ap field_from e ∙ found_again g

-- a field's place is the words of those in front
words_before : ℕ → ℕ
words_before i = sum_by width_of (take i fields_in_order)

placed : (field : Field) → place_of field ≡ words_before (index_of field)
unfolding words_before
placed ReferencePoint = refl
placed Bandwidth = refl
placed IfReference = refl
placed RfReference = refl
placed IfOffset = refl
placed ReferenceLevel = refl
placed Gain = refl
placed SampleRate = refl
placed TimeAdjustment = refl
placed Calibration = refl
placed State = refl
placed Format = refl

pub numbered : (field : Field) → get_or fields_in_order (index_of field) ReferencePoint ≡ field
numbered ReferencePoint = refl
numbered Bandwidth = refl
numbered IfReference = refl
numbered RfReference = refl
numbered IfOffset = refl
numbered ReferenceLevel = refl
numbered Gain = refl
numbered SampleRate = refl
numbered TimeAdjustment = refl
numbered Calibration = refl
numbered State = refl
numbered Format = refl

pub few : (field : Field) → index_of field < 12
few ReferencePoint = omega arith
few Bandwidth = omega arith
few IfReference = omega arith
few RfReference = omega arith
few IfOffset = omega arith
few ReferenceLevel = omega arith
few Gain = omega arith
few SampleRate = omega arith
few TimeAdjustment = omega arith
few Calibration = omega arith
few State = omega arith
few Format = omega arith

-- what is taken of a sum grows
grown : (fields : List Field) (i j : ℕ) (d : Field) → i < j → j ≤ length fields
    → sum_by width_of (take i fields) + width_of (get_or fields i d) ≤ sum_by width_of (take j fields)
grown [] i j d less within = absurd (omega arith)
grown (field ∷ fields) i zero d less within = absurd (omega arith)
grown (field ∷ fields) zero (suc j) d less within = omega (arith, sum_by-cons width_of field (take j fields))
grown (field ∷ fields) (suc i) (suc j) d less within =
    omega (
      arith,
      sum_by-cons width_of field (take i fields),
      sum_by-cons width_of field (take j fields),
      grown fields i j d (omega arith) (omega arith),
    )

pub apart : (f g : Field) → index_of f < index_of g → place_of f + width_of f ≤ place_of g
unfolding words_before
apart f g less =
    let all = grown fields_in_order (index_of f) (index_of g) ReferencePoint less (omega (arith, few g)) in
    let own : width_of (get_or fields_in_order (index_of f) ReferencePoint) ≡ width_of f = ap width_of (numbered f) in
    omega (arith, placed f, placed g, own, all)

-- the number of the field with a number
number_again : (i : ℕ) → i < 12 → index_of (get_or fields_in_order i ReferencePoint) ≡ i
number_again zero h = refl
number_again (suc zero) h = refl
number_again (suc (suc zero)) h = refl
number_again (suc (suc (suc zero))) h = refl
number_again (suc (suc (suc (suc zero)))) h = refl
number_again (suc (suc (suc (suc (suc zero))))) h = refl
number_again (suc (suc (suc (suc (suc (suc zero)))))) h = refl
number_again (suc (suc (suc (suc (suc (suc (suc zero))))))) h = refl
number_again (suc (suc (suc (suc (suc (suc (suc (suc zero)))))))) h = refl
number_again (suc (suc (suc (suc (suc (suc (suc (suc (suc zero))))))))) h = refl
number_again (suc (suc (suc (suc (suc (suc (suc (suc (suc (suc zero)))))))))) h = refl
number_again (suc (suc (suc (suc (suc (suc (suc (suc (suc (suc (suc zero))))))))))) h = refl
number_again (suc (suc (suc (suc (suc (suc (suc (suc (suc (suc (suc (suc i)))))))))))) h = absurd (omega arith)

-- sets that hold the same of each field are one
pub one_set_of_values : (set other : FieldValues) → IsFieldSet set → IsFieldSet other → ((field : Field) → value_of set field ≡ value_of other field)
    → set ≡ other
one_set_of_values set other p q same =
    ext_get_or None set other (p.each ∙ sym q.each) (λ i h.
    let e : index_of (get_or fields_in_order i ReferencePoint) ≡ i = number_again i (omega (arith, p.each)) in
    ap (λ n. get_or set n None) (sym e) ∙ same (get_or fields_in_order i ReferencePoint) ∙ ap (λ n. get_or other n None) e)

-- the bit of a field in CIF0 of a set tells whether the field is there
bit_told : (set : FieldValues) (field : Field) → IsFieldSet set → bit_in (mask_of set) field ≡ flag (value_of set field)
bit_told set field p =
    subst (λ f. bit_in (mask_of set) f ≡ flag (value_of set field)) (numbered field) (mask_bit set (index_of field) p (few field))

flag_there : (v : Option ℕ) → (flag v ≡ 1) ↔ (v ≢ None)
flag_there None = (λ e. absurd (omega arith), λ h. absurd (h refl))
flag_there (Some value) = (λ e. grind arith, λ h. refl)

flag_none : (v : Option ℕ) → (flag v ≡ 0) ↔ (v ≡ None)
flag_none None = (λ e. refl, λ h. refl)
flag_none (Some value) = (λ e. absurd (omega arith), λ h. grind arith)

pub bit_where_there : (set : FieldValues) (field : Field) → IsFieldSet set → (bit_in (mask_of set) field ≡ 1) ↔ (value_of set field ≢ None)
bit_where_there set field p =
    let e = bit_told set field p in
    let f = flag_there (value_of set field) in
    (λ h. f.0 (sym e ∙ h), λ h. e ∙ f.1 h)

pub no_bit_where_none : (set : FieldValues) (field : Field) → IsFieldSet set → (bit_in (mask_of set) field ≡ 0) ↔ (value_of set field ≡ None)
no_bit_where_none set field p =
    let e = bit_told set field p in
    let f = flag_none (value_of set field) in
    (λ h. f.0 (sym e ∙ h), λ h. e ∙ f.1 h)
