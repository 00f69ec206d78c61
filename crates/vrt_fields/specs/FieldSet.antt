-- Sets of fields with their values, CIF0 that names them, and the words that they take.
use Rattle.std.specs.Prelude.{◌≡◌, ℕ, ◌+◌, ◌*◌, ◌/◌, ◌%◌, ◌^◌, ◌<◌, ◌==◌, if◌then◌else◌, List, [], ◌∷◌, ◌++◌, length, sum_by, replicate, Option, Some, None, IfSome, slice_index_or}
use Rattle.vrt_words.specs.Words.{bits}
use Rattle.vrt_fields.specs.declared.field.Field.{Field}
use Rattle.vrt_fields.specs.declared.field.Field.TheVariants.{ReferencePoint, Bandwidth, IfReference, RfReference, IfOffset, ReferenceLevel, Gain, SampleRate, TimeAdjustment, Calibration, State, Format}
use Rattle.vrt_fields.specs.Field.{bit_of, width_of, fields_in_order}

-- the number of a field among all, from the highest bit down
abbrev pub index_of : Field → ℕ
index_of ReferencePoint = 0
index_of Bandwidth = 1
index_of IfReference = 2
index_of RfReference = 3
index_of IfOffset = 4
index_of ReferenceLevel = 5
index_of Gain = 6
index_of SampleRate = 7
index_of TimeAdjustment = 8
index_of Calibration = 9
index_of State = 10
index_of Format = 11

-- what a set holds of each field, in the order of the fields: its value, or None where it is not in the set
abbrev pub FieldValues : Type 0
FieldValues = List (Option ℕ)

abbrev pub value_of : FieldValues → Field → Option ℕ
value_of set field = slice_index_or set (index_of field) None

abbrev pub no_fields : FieldValues
no_fields = replicate 12 None

-- a value fits into the words of its field
abbrev pub FitsField : Field → ℕ → Type 0
FitsField field value = value < 2 ^ (32 * width_of field)

-- there is a value or None for each field, and the values fit
pub record IsFieldSet (set : FieldValues) : Type 0 where
  pub each : length set ≡ 12
  pub fits : (field : Field) → IfSome (value_of set field) (FitsField field)

-- the bit of a field that is there
abbrev pub bit_if : Option ℕ → ℕ → ℕ
bit_if None bit = 0
bit_if (Some value) bit = 2 ^ bit

-- the bits of those of some fields that are there, whose values stand beside them
abbrev pub mask_with : List Field → FieldValues → ℕ
mask_with [] values = 0
mask_with (field ∷ fields) [] = 0
mask_with (field ∷ fields) (value ∷ values) = bit_if value (bit_of field) + mask_with fields values

-- CIF0 with the fields of a set
abbrev pub mask_of : FieldValues → ℕ
mask_of set = mask_with fields_in_order set

-- a value in so many words, the high one first
abbrev pub words_of_value : ℕ → ℕ → List ℕ
words_of_value width value = if width == 1 then value ∷ [] else value / 2 ^ 32 ∷ value % 2 ^ 32 ∷ []

abbrev pub words_if : Option ℕ → ℕ → List ℕ
words_if None width = []
words_if (Some value) width = words_of_value width value

-- the words of those of some fields that are there
abbrev pub words_with : List Field → FieldValues → List ℕ
words_with [] values = []
words_with (field ∷ fields) [] = []
words_with (field ∷ fields) (value ∷ values) = words_if value (width_of field) ++ words_with fields values

-- the words of a set as they stand in a packet: each field's, from the highest bit of CIF0 down
abbrev pub words_of_set : FieldValues → List ℕ
words_of_set set = words_with fields_in_order set

-- CIF0 has the bit of a field
abbrev pub bit_in : ℕ → Field → ℕ
bit_in cif0 field = bits cif0 (bit_of field) 1

-- CIF0 has the bits of fields, and no other
abbrev pub IsFieldMask : ℕ → Type 0
IsFieldMask cif0 = cif0 ≡ sum_by (λ field. bit_in cif0 field * 2 ^ bit_of field) fields_in_order

-- the words that the fields of CIF0 take
abbrev pub width_of_mask : ℕ → ℕ
width_of_mask cif0 = sum_by (λ field. bit_in cif0 field * width_of field) fields_in_order

-- how many fields CIF0 names
abbrev pub number_in_mask : ℕ → ℕ
number_in_mask cif0 = sum_by (λ field. bit_in cif0 field) fields_in_order
