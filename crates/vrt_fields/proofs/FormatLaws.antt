-- Laws of the payload format.
use Rattle.std.proofs.Common.{◌≡◌, ℕ, refl, inl, subst, List, [], ◌∷◌, zero, suc, inr, lit<, lit≤, arith}
use Rattle.vrt_fields.specs.declared.format.PayloadFormat.{PayloadFormat}
use Rattle.vrt_words.specs.Words.{AreWords}
use Rattle.vrt_words.specs.Begins.{Begins, IsRefusedAt}
use Rattle.vrt_fields.specs.Format.{IsFormat, IsFormatFirst, format_of, IsFormatWords, IsFormatRefused}

-- items of 16 bits, packed link-efficiently
pub sixteen_bits_first : IsFormatFirst 0xA00003CF
sixteen_bits_first = record {
  cartesian = refl;
  plain = refl;
  at_least_four = lit≤ tt;
  at_most_sixteen = lit≤ tt;
  no_gaps = refl;
  packing = inl refl;
}

-- a first word in the rule tells a format
pub IsFormat-format_of : (first : ℕ) → IsFormatFirst first → IsFormat (format_of first) first 0
IsFormat-format_of first right = record {
  first_word = right;
  second_word = refl;
  bits_told = refl;
  packed_told = refl;
}

-- no format begins with a wrong first word
first_is_right : (format : PayloadFormat) (first : ℕ) (rest : List ℕ) → IsFormatWords format (first ∷ rest) → IsFormatFirst first
first_is_right format first [] p = absurd p
first_is_right format first (second ∷ []) p = p.first_word
first_is_right format first (second ∷ more ∷ rest) p = absurd p

second_is_right : (format : PayloadFormat) (first second : ℕ) (rest : List ℕ) → IsFormatWords format (first ∷ second ∷ rest) → second ≡ 0
second_is_right format first second [] p = p.second_word
second_is_right format first second (more ∷ rest) p = absurd p

zero_word : AreWords (0 ∷ [])
zero_word zero = lit< tt
zero_word (suc i) = lit< tt

-- the first word that is outside its rule is the least one at which no format begins so
pub refused_at : (first second place : ℕ) → IsFormatRefused first second place → IsRefusedAt IsFormatWords (first ∷ second ∷ []) place
refused_at first second place (inl wrong) = rw wrong.0 (record {
  within = lit≤ tt;
  before = λ u h. absurd (omega arith);
  here = λ h b. wrong.1 (first_is_right b.0 first b.1.0 b.1.1.1);
})
refused_at first second place (inr wrong) = rw wrong.0 (record {
  within = lit≤ tt;
  before = λ u h. let e : 0 ≡ u = omega arith in subst (Begins IsFormatWords (first ∷ second ∷ [])) e (format_of first, (0 ∷ [], (zero_word, IsFormat-format_of first wrong.1)));
  here = λ h b. wrong.2 (second_is_right b.0 first second b.1.0 b.1.1.1);
})
