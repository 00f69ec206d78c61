-- The values of options, and the line that they make.
use Rattle.std.proofs.Common.{◌≡◌, ◌<◌, ◌≤◌, ◌&&◌, ◌∙◌, ℕ, Bool, true, false, [], ◌∷◌, length, Result, Ok, IsTrue, refl, sym, arith, rules}
use Rattle.std.specs.List.{list_all}
use Rattle.std.specs.Char.{digit_value, is_ascii_digit}
use Rattle.std.specs.Str.Parse.{AllDigits, ParsesUnsigned, digits_value}
use Rattle.std.proofs.lemmas.Bool.Decides.{nat_tests}
use Rattle.std.proofs.lemmas.Str.Parse.{IsNumeralModel, digits_value_short, numerals_by_value, parse_gives}
use Rattle.difi_cmd.specs.LineOfWords.{IsValue, Text}

digit_of : (c : ℕ) → is_ascii_digit c ≡ true → digit_value c < 10
digit_of c h = grind (arith, nat_tests)

is_digit : (c : ℕ) → digit_value c < 10 → is_ascii_digit c ≡ true
is_digit c h = grind (arith, nat_tests)

both : (a b : Bool) → (a && b) ≡ true → (a ≡ true) × (b ≡ true)
both true b h = (refl, h)
both false b h = cc

digits_from : (text : Text) → list_all is_ascii_digit text ≡ true → AllDigits 10 text
digits_from [] h = tt
digits_from (c ∷ text) h = let two = both _ _ h in (digit_of c two.0, digits_from text two.1)

test_from : (text : Text) → AllDigits 10 text → list_all is_ascii_digit text ≡ true
test_from [] h = refl
test_from (c ∷ text) h = rw (is_digit c h.0) (test_from text h.1)

pub value_test : (text : Text) (test : Bool) → test ≡ list_all is_ascii_digit text → 0 < length text → length text ≤ 19
    → (IsTrue test → IsValue text) × (IsValue text → IsTrue test)
value_test text test is some few = (
  λ h. record { digits = (some, digits_from text (sym is ∙ h)); short = few },
  λ v. is ∙ test_from text v.digits.1,
)

own : IsNumeralModel (λ text. AllDigits 10 text) (digits_value 10)
own = numerals_by_value (λ text. AllDigits 10 text) (search rules)

-- a value fits 64 bits, so it is parsed
pub value_parses : {E : Type 0} (text : Text) (r : Result ℕ E) → IsValue text → ParsesUnsigned 64 10 text r → r ≡ Ok (digits_value 10 text)
value_parses text r v h =
    let below = digits_value_short own text 19 v.digits.1 v.short in
    parse_gives own 64 text r h v.digits.1 v.digits.0 (omega arith)
