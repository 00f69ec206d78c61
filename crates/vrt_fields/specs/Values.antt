-- How the values of some fields stand in a list of words, one field after another.
use Rattle.std.specs.Prelude.{ℕ, ◌+◌, ◌*◌, ◌^◌, ◌==◌, if◌then◌else◌, List, [], ◌∷◌, drop, Option, Some, None, slice_index}
use Rattle.vrt_fields.specs.declared.field.Field.{Field}
use Rattle.vrt_fields.specs.Field.{width_of}
use Rattle.vrt_fields.specs.FieldSet.{FieldValues, bit_in}

-- the number in the first words
abbrev pub number_in : ℕ → List ℕ → ℕ
number_in width words =
    if width == 1 then slice_index words 0 else slice_index words 0 * 2 ^ 32 + slice_index words 1

-- the value in the first words, where the bit of its field is set
abbrev pub first_value : ℕ → ℕ → List ℕ → Option ℕ
first_value bit width words = if bit == 0 then None else Some (number_in width words)

-- the words that a field takes under CIF0
abbrev pub taken : ℕ → Field → ℕ
taken cif0 field = bit_in cif0 field * width_of field

-- the values of some fields, those that CIF0 names, in words one after another
abbrev pub values_in : ℕ → List Field → List ℕ → FieldValues
values_in cif0 [] words = []
values_in cif0 (field ∷ fields) words =
    first_value (bit_in cif0 field) (width_of field) words ∷ values_in cif0 fields (drop (taken cif0 field) words)
