-- The numbers in the bytes of a record, the highest byte first.
use Rattle.std.specs.Prelude.{◌≡◌, ℕ, ◌+◌, ◌*◌, ◌<◌, ℤ, List, length, slice_index}
use Rattle.std.specs.Int.{w64, cast_signed}
use Rattle.byteorder.specs.Endian.{big_from}

-- the number in so many bytes from an offset on
unfoldable pub number_at : ℕ → ℕ → List ℕ → ℕ
number_at offset width bytes = big_from offset width bytes

-- the signed number in the eight bytes from an offset on
abbrev pub signed_at : ℕ → List ℕ → ℤ
signed_at offset bytes = cast_signed w64 (number_at offset 8 bytes)

-- the words from an offset on, so many
pub record AreNumbers (words : List ℕ) (offset count : ℕ) (bytes : List ℕ) : Type 0 where
  pub all : length words ≡ count
  pub each : (i : ℕ) → i < count → slice_index words i ≡ number_at (offset + 4 * i) 4 bytes
