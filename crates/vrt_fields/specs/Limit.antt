-- Which limits a field can have: the multiples of a step, from the least to the greatest, within what the field holds.
use Rattle.std.specs.Prelude.{◌≡◌, ℕ, ◌<◌, ◌≤◌, ◌^◌, ◌-◌, ◌%◌, true, false, ℤ, pos, negsuc, ◌≤ℤ◌, List, [], ◌∷◌, unsigned_abs}
use Rattle.vrt_fields.specs.declared.field.Field.{Field}
use Rattle.vrt_fields.specs.declared.field.Field.TheVariants.{Bandwidth, IfReference, RfReference, IfOffset, ReferenceLevel, Gain, SampleRate}
use Rattle.vrt_fields.specs.declared.limit.Limit.{Limit}

-- the fields that have limits, in the order in which limits are listed
abbrev pub limited_fields : List Field
limited_fields = Bandwidth ∷ IfReference ∷ RfReference ∷ IfOffset ∷ ReferenceLevel ∷ Gain ∷ SampleRate ∷ []

-- the least number that a field can be set to: reference level and gain are 16 bits, and a rate is 1 Hz at least
abbrev pub own_least : Field → ℤ
own_least ReferenceLevel = negsuc (2 ^ 15 - 1)
own_least Gain = negsuc (2 ^ 15 - 1)
own_least SampleRate = pos (2 ^ 20)
own_least field = negsuc (2 ^ 63 - 1)

-- and the greatest
abbrev pub own_greatest : Field → ℤ
own_greatest ReferenceLevel = pos (2 ^ 15 - 1)
own_greatest Gain = pos (2 ^ 15 - 1)
own_greatest field = pos (2 ^ 63 - 1)

-- a number is so many steps from 0
abbrev pub IsMultiple : ℤ → ℕ → Type 0
IsMultiple number step = unsigned_abs number % step ≡ 0

-- the limits of a field that may be set: numbers of whole steps
pub record IsStepped (step : ℕ) (least greatest : ℤ) : Type 0 where
  pub some_step : 1 ≤ step
  pub most_step : step < 2 ^ 63
  pub from : IsMultiple least step
  pub to : IsMultiple greatest step

-- within what it can be set to
pub record IsWithin (field : Field) (least greatest : ℤ) : Type 0 where
  pub not_below : own_least field ≤ℤ least
  pub in_order : least ≤ℤ greatest
  pub not_above : greatest ≤ℤ own_greatest field

-- a field that may not be set has no limits
pub record IsShut (limit : Limit) : Type 0 where
  pub step : limit.step ≡ 0
  pub least : limit.least ≡ pos 0
  pub greatest : limit.greatest ≡ pos 0

-- the limit is one that the field can have
pub record IsLimit (field : Field) (limit : Limit) : Type 0 where
  pub shut : limit.settable ≡ false → IsShut limit
  pub stepped : limit.settable ≡ true → IsStepped limit.step limit.least limit.greatest
  pub within : limit.settable ≡ true → IsWithin field limit.least limit.greatest
