-- Lists of bits, each 0 or 1, with the most significant first, and the numbers that they spell.
use Rattle.std.specs.Prelude.{ℕ, zero, suc, ◌+◌, ◌-◌, ◌*◌, ◌/◌, ◌%◌, ◌^◌, ℤ, pos, negsuc, neg_ℤ, ◌-ℤ◌, ◌≤ℤ◌, ◌<ℤ◌, List, [], ◌∷◌, length, flat_map}

-- the lowest `width` bits of a number
unfoldable pub bits_of : ℕ → ℕ → List ℕ
bits_of zero n = []
bits_of (suc width) n = n / 2 ^ width % 2 ∷ bits_of width n

-- the eight bits of each byte, one byte after another
unfoldable pub bits_of_bytes : List ℕ → List ℕ
bits_of_bytes bytes = flat_map (bits_of 8) bytes

-- the number that bits spell: each counts a power of two, the last of them one
unfoldable pub number_of : List ℕ → ℕ
number_of [] = 0
number_of (bit ∷ bits) = bit * 2 ^ length bits + number_of bits

-- the number that bits spell in two's complement: the first of them counts below zero
unfoldable pub signed_number_of : List ℕ → ℤ
signed_number_of [] = pos 0
signed_number_of (bit ∷ bits) = pos (number_of bits) -ℤ pos (bit * 2 ^ length bits)

-- the `width` bits of a number in two's complement: those of 2 ^ width more, where it is below zero
unfoldable pub signed_bits_of : ℕ → ℤ → List ℕ
signed_bits_of width (pos n) = bits_of width n
signed_bits_of width (negsuc n) = bits_of width (2 ^ width - suc n)

-- the number has `width` bits in two's complement
abbrev pub FitsBits : ℕ → ℤ → Type 0
FitsBits width z = (neg_ℤ (pos (2 ^ (width - 1))) ≤ℤ z) × (z <ℤ pos (2 ^ (width - 1)))
