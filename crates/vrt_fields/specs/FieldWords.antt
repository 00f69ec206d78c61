-- The nineteen words of all twelve fields, as a context has them: what each field tells there, and the rules of the rate and
-- of the payload format.
use Rattle.std.specs.Prelude.{ℕ, ◌+◌, ◌*◌, ◌^◌, ◌<◌, ◌≤◌, ◌==◌, if◌then◌else◌, List, slice_index}
use Rattle.vrt_fields.specs.Field.{width_of, place_of}
use Rattle.vrt_fields.specs.Format.{item_size, IsFormatFirst, IsFormatSecond}
use Rattle.vrt_fields.specs.declared.field.Field.{Field}
use Rattle.vrt_fields.specs.declared.field.Field.TheVariants.{SampleRate, Format}

-- the value of a field among the words of all: one word, or two as one number
abbrev pub field_of : List ℕ → Field → ℕ
field_of words field =
    if width_of field == 1 then slice_index words (place_of field)
    else slice_index words (place_of field) * 2 ^ 32 + slice_index words (place_of field + 1)

-- the sample rate, in units of 2^-20 Hz
abbrev pub rate_in : List ℕ → ℕ
rate_in words = field_of words SampleRate

-- the first word of the payload format, and the item size in it
abbrev pub format_in : List ℕ → ℕ
format_in words = slice_index words (place_of Format)

abbrev pub size_in : List ℕ → ℕ
size_in words = item_size (format_in words)

-- a sample rate in two words: a signed number of 64 bits, in units of 2^-20 Hz, that is at least 1 Hz
pub record IsRate (high low : ℕ) : Type 0 where
  pub positive : high < 2 ^ 31
  pub least : 2 ^ 20 ≤ high * 2 ^ 32 + low

-- the words of the fields of a context: the rate and the payload format obey their rules
pub record AreFields (words : List ℕ) : Type 0 where
  pub rate : IsRate (slice_index words (place_of SampleRate)) (slice_index words (place_of SampleRate + 1))
  pub format_first : IsFormatFirst (slice_index words (place_of Format))
  pub format_second : IsFormatSecond (slice_index words (place_of Format + 1))
