-- The text of a field: its name and its value in the units of the standard.
use Rattle.std.specs.Prelude.{ℕ, ◌/◌, ◌%◌, ◌^◌, ℤ, List, ◌++◌, codes}
use Rattle.std.specs.Int.{cast_signed, int_shr}
use Rattle.std.specs.Fmt.{decimal, signed_decimal}
use mir.Syntax.{w16, w64}
use Rattle.vrt_fields.specs.NumberText.{hexadecimal, hexadecimal_half}
use Rattle.vrt_fields.specs.declared.field.Field.{Field}
use Rattle.vrt_fields.specs.declared.field.Field.TheVariants.{ReferencePoint, Bandwidth, IfReference, RfReference, IfOffset, ReferenceLevel, Gain, SampleRate, TimeAdjustment, Calibration, State, Format}

-- the number in 64 bits, and in 16, in two's complement
abbrev pub signed_64 : ℕ → ℤ
signed_64 value = cast_signed w64 value

abbrev pub signed_16 : ℕ → ℤ
signed_16 half = cast_signed w16 half

-- of a signed number in units of 2^-20 Hz the whole hertz, rounded down, and the units that are left
abbrev pub whole_hertz : ℕ → ℤ
whole_hertz value = int_shr (signed_64 value) 20

abbrev pub units_left : ℕ → ℕ
units_left value = value % 2 ^ 20

abbrev pub hertz : ℕ → List ℕ
hertz value = signed_decimal (whole_hertz value) ++ codes " Hz + " ++ decimal (units_left value) ++ codes "/1048576"

-- a level in the low half of a word, and what the high half holds
abbrev pub level : ℕ → List ℕ
level word = signed_decimal (signed_16 (word % 2 ^ 16)) ++ codes "/128 dBm upper " ++ hexadecimal_half (word / 2 ^ 16)

-- the gain of stage 1 in the low half of a word, and of stage 2 in the high one
abbrev pub gains : ℕ → List ℕ
gains word = signed_decimal (signed_16 (word % 2 ^ 16)) ++ codes "/128 dB " ++ signed_decimal (signed_16 (word / 2 ^ 16)) ++ codes "/128 dB"

-- what a field is called
abbrev pub field_name : Field → List ℕ
field_name ReferencePoint = codes "reference point "
field_name Bandwidth = codes "bandwidth "
field_name IfReference = codes "IF "
field_name RfReference = codes "RF "
field_name IfOffset = codes "IF offset "
field_name ReferenceLevel = codes "reference level "
field_name Gain = codes "gain "
field_name SampleRate = codes "sample rate "
field_name TimeAdjustment = codes "time adjustment "
field_name Calibration = codes "calibration "
field_name State = codes "state "
field_name Format = codes "payload "

-- what its value says
abbrev pub value_text : Field → ℕ → List ℕ
value_text ReferencePoint value = hexadecimal value
value_text Bandwidth value = hertz value
value_text IfReference value = hertz value
value_text RfReference value = hertz value
value_text IfOffset value = hertz value
value_text ReferenceLevel value = level value
value_text Gain value = gains value
value_text SampleRate value = hertz value
value_text TimeAdjustment value = signed_decimal (signed_64 value) ++ codes " fs"
value_text Calibration value = decimal value ++ codes " s"
value_text State value = hexadecimal value
value_text Format value = hexadecimal (value / 2 ^ 32) ++ codes " " ++ hexadecimal (value % 2 ^ 32)

abbrev pub field_text : Field → ℕ → List ℕ
field_text field value = field_name field ++ value_text field value
