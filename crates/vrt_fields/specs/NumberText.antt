-- The texts of numbers: to the base 16, and in decimal digits up to a width.
use Rattle.std.specs.Prelude.{ℕ, ◌-◌, List, [], ◌∷◌, ◌++◌, length, replicate, true}
use Rattle.std.specs.Fmt.{decimal, digit_glyph}
use Rattle.vrt_words.specs.Words.{bits}

-- four digits to the base 16, with upper-case letters, and eight
abbrev pub hexadecimal_half : ℕ → List ℕ
hexadecimal_half half = digit_glyph true (bits half 12 4) ∷ digit_glyph true (bits half 8 4)
    ∷ digit_glyph true (bits half 4 4) ∷ digit_glyph true (bits half 0 4) ∷ []

abbrev pub hexadecimal : ℕ → List ℕ
hexadecimal word = digit_glyph true (bits word 28 4) ∷ digit_glyph true (bits word 24 4)
    ∷ digit_glyph true (bits word 20 4) ∷ digit_glyph true (bits word 16 4)
    ∷ digit_glyph true (bits word 12 4) ∷ digit_glyph true (bits word 8 4)
    ∷ digit_glyph true (bits word 4 4) ∷ digit_glyph true (bits word 0 4) ∷ []

-- decimal digits, with zeros in front of them up to so many
abbrev pub padded_decimal : ℕ → ℕ → List ℕ
padded_decimal width number = replicate (width - length (decimal number)) 48 ++ decimal number
