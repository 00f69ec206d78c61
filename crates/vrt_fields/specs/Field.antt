-- The twelve fields of a context: their bits in CIF0, their words, and their places.
use Rattle.std.specs.Prelude.{ℕ, List, [], ◌∷◌, filter, sum_by, nat_lt}
use Rattle.vrt_fields.specs.declared.field.Field.{Field}
use Rattle.vrt_fields.specs.declared.field.Field.TheVariants.{ReferencePoint, Bandwidth, IfReference, RfReference, IfOffset, ReferenceLevel, Gain, SampleRate, TimeAdjustment, Calibration, State, Format}

-- the bit of CIF0 that says that the field is there
abbrev pub bit_of : Field → ℕ
bit_of ReferencePoint = 30
bit_of Bandwidth = 29
bit_of IfReference = 28
bit_of RfReference = 27
bit_of IfOffset = 25
bit_of ReferenceLevel = 24
bit_of Gain = 23
bit_of SampleRate = 21
bit_of TimeAdjustment = 20
bit_of Calibration = 19
bit_of State = 16
bit_of Format = 15

-- the number of its words
abbrev pub width_of : Field → ℕ
width_of ReferencePoint = 1
width_of Bandwidth = 2
width_of IfReference = 2
width_of RfReference = 2
width_of IfOffset = 2
width_of ReferenceLevel = 1
width_of Gain = 1
width_of SampleRate = 2
width_of TimeAdjustment = 2
width_of Calibration = 1
width_of State = 1
width_of Format = 2

-- all fields as they stand in a packet, from the highest bit down
abbrev pub fields_in_order : List Field
fields_in_order =
    ReferencePoint ∷ Bandwidth ∷ IfReference ∷ RfReference ∷ IfOffset ∷ ReferenceLevel ∷ Gain ∷ SampleRate ∷ TimeAdjustment ∷ Calibration ∷ State ∷ Format ∷ []

-- where all fields are there, the words of those in front, whose bits are higher
abbrev pub place_of : Field → ℕ
place_of field = sum_by width_of (filter (λ other. nat_lt (bit_of field) (bit_of other)) fields_in_order)
