-- The payload format: the rule of its two words, and what they tell.
use Rattle.std.specs.Prelude.{◌≡◌, ℕ, ◌+◌, ◌≤◌, Bool, ◌==◌, ◌⊎◌, List, [], ◌∷◌}
use Rattle.vrt_fields.specs.declared.format.PayloadFormat.{PayloadFormat}
use Rattle.vrt_words.specs.Words.{bits}

-- the bits of one item, and the bits that are given to it
abbrev pub item_size : ℕ → ℕ
item_size first = bits first 0 6 + 1

abbrev pub packing_size : ℕ → ℕ
packing_size first = bits first 6 6 + 1

-- bit 31: link-efficient packing
abbrev pub is_packed : ℕ → Bool
is_packed first = bits first 31 1 == 1

-- complex Cartesian samples; signed fixed point, with no repeat, tags or fraction; items of 4 to 16 bits,
-- packed link-efficiently, or in any way where that makes no difference
pub record IsFormatFirst (first : ℕ) : Type 0 where
  pub cartesian : bits first 29 2 ≡ 1
  pub plain : bits first 12 17 ≡ 0
  pub at_least_four : 4 ≤ item_size first
  pub at_most_sixteen : item_size first ≤ 16
  pub no_gaps : packing_size first ≡ item_size first
  pub packing : (bits first 31 1 ≡ 1) ⊎ ((item_size first ≡ 8) ⊎ (item_size first ≡ 16))

abbrev pub IsFormatSecond : ℕ → Type 0
IsFormatSecond second = second ≡ 0

-- the format that two words tell
pub record IsFormat (format : PayloadFormat) (first second : ℕ) : Type 0 where
  pub first_word : IsFormatFirst first
  pub second_word : IsFormatSecond second
  pub bits_told : format.bits ≡ item_size first
  pub packed_told : format.packed ≡ is_packed first

abbrev pub format_of : ℕ → PayloadFormat
format_of first = record { bits = item_size first; packed = is_packed first }

-- the first word that is outside its rule
abbrev pub IsFormatRefused : ℕ → ℕ → ℕ → Type 0
IsFormatRefused first second place =
    ((place ≡ 0) × ¬ IsFormatFirst first) ⊎ ((place ≡ 1) × IsFormatFirst first × ¬ IsFormatSecond second)

-- the format that a list of two words tells
abbrev pub IsFormatWords : PayloadFormat → List ℕ → Type 0
IsFormatWords format (first ∷ second ∷ []) = IsFormat format first second
IsFormatWords format words = ⊥
