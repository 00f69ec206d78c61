-- The numbers in the bytes of a capture file, all of which have the byte order of its magic number.
use Rattle.std.specs.Prelude.{ℕ, Bool, if◌then◌else◌, List}
use Rattle.byteorder.specs.Endian.{big_from, little_from}

-- the number in so many bytes from an offset on, the highest byte first where `big`, else the lowest
unfoldable pub number_in : Bool → ℕ → ℕ → List ℕ → ℕ
number_in big offset width bytes = if big then big_from offset width bytes else little_from offset width bytes
