-- Laws of field sets: CIF0 and the words determine a set, and a set CIF0 and its words.
use Rattle.std.proofs.Common.{◌≡◌, ℕ, zero, suc, ◌+◌, ◌-◌, ◌*◌, ◌/◌, ◌%◌, ◌^◌, ◌<◌, ◌≤◌, List, [], ◌∷◌, ◌++◌, length, take, drop, sum_by, get_or, Option, Some, None, IfSome, refl, sym, ap, ◌∙◌, subst, lit<, arith, length-append, length-drop, take-add}
use Rattle.std.proofs.lemmas.List.Sums.{sum_by-cons}
use Rattle.std.proofs.lemmas.List.{take_all}
use Rattle.std.proofs.Math.Pow.{pow_mono, pow_pos}
use Rattle.std.proofs.Math.Seq.{drop-append_seam}
use Rattle.std.proofs.lemmas.Nat.{div-mul-add, pow-add}
use Rattle.vrt_words.specs.Words.{AreWords}
use Rattle.vrt_words.proofs.WordLaws.{AreWords-drop}
use Rattle.vrt_fields.specs.declared.field.Field.{Field}
use Rattle.vrt_fields.specs.declared.field.Field.TheVariants.{ReferencePoint, Bandwidth, IfReference, RfReference, IfOffset, ReferenceLevel, Gain, SampleRate, TimeAdjustment, Calibration, State, Format}
use Rattle.vrt_fields.specs.Field.{bit_of, width_of, fields_in_order}
use Rattle.vrt_fields.specs.FieldSet.{FieldValues, IsFieldSet, FitsField, value_of, bit_if, mask_with, mask_of, words_of_value, words_if, words_with, words_of_set, bit_in, IsFieldMask, width_of_mask}
use Rattle.vrt_fields.specs.Values.{number_in, first_value, taken, values_in}

-- whether a value is there, as a bit
abbrev pub flag : Option ℕ → ℕ
flag None = 0
flag (Some value) = 1

flag_below : (v : Option ℕ) → flag v < 2
flag_below None = lit< tt
flag_below (Some value) = lit< tt

bit_if_flag : (v : Option ℕ) (k : ℕ) → bit_if v k ≡ flag v * 2 ^ k
bit_if_flag None k = omega arith
bit_if_flag (Some value) k = omega arith

-- each field has a lower bit than the one in front, and the first a lower one than this
abbrev pub Falling : ℕ → List Field → Type 0
Falling bit [] = Unit {0}
Falling bit (field ∷ fields) = (bit_of field < bit) × Falling (bit_of field) fields

pub falling_order : Falling 31 fields_in_order
falling_order = (lit< tt, (lit< tt, (lit< tt, (lit< tt, (lit< tt, (lit< tt, (lit< tt, (lit< tt, (lit< tt, (lit< tt, (lit< tt, (lit< tt, tt))))))))))))

doubled : (b : ℕ) → 2 ^ b + 2 ^ b ≡ 2 ^ suc b
doubled b = sym (pow-add 2 b 1 ∙ omega arith) ∙ ap (λ n. 2 ^ n) (omega arith)

pub mask_below : (bit : ℕ) (fields : List Field) (values : FieldValues) → Falling bit fields → mask_with fields values < 2 ^ bit
mask_below bit [] values falling = pow_pos bit
mask_below bit (field ∷ fields) [] falling = pow_pos bit
mask_below bit (field ∷ fields) (value ∷ values) falling =
    let rest = mask_below (bit_of field) fields values falling.1 in
    let same = bit_if_flag value (bit_of field) in
    let small = flag_below value in
    let two = doubled (bit_of field) in
    let more : 2 ^ suc (bit_of field) ≤ 2 ^ bit = pow_mono falling.0 in
    let own : flag value * 2 ^ bit_of field ≤ 2 ^ bit_of field = grind arith in
    omega arith

-- the bits of a number from a field's bit up, where the number is what stands above and the mask of the fields from there on
record Peeled (n high bit : ℕ) (field : Field) (fields : List Field) (value : Option ℕ) (values : FieldValues) : Type 0 where
  here : bit_in n field ≡ flag value
  above : ℕ
  rest : n ≡ above * 2 ^ bit_of field + mask_with fields values

regrouped : (high x z : ℕ) → high * (x * (z + z)) ≡ high * x * 2 * z
regrouped high x z = omega arith

shifted : (high bit k : ℕ) → k < bit → high * 2 ^ bit ≡ high * 2 ^ (bit - suc k) * 2 * 2 ^ k
shifted high bit k h =
    let e : bit ≡ (bit - suc k) + suc k = omega arith in
    ap (λ n. high * 2 ^ n) e
    ∙ ap (λ x. high * x) (pow-add 2 (bit - suc k) (suc k))
    ∙ ap (λ x. high * (2 ^ (bit - suc k) * x)) (sym (doubled k))
    ∙ regrouped high (2 ^ (bit - suc k)) (2 ^ k)

peeled : (n high bit : ℕ) (field : Field) (fields : List Field) (value : Option ℕ) (values : FieldValues) → Falling bit (field ∷ fields)
    → n ≡ high * 2 ^ bit + mask_with (field ∷ fields) (value ∷ values) → Peeled n high bit field fields value values
peeled n high bit field fields value values falling e =
    let k = bit_of field in
    let up = high * 2 ^ (bit - suc k) * 2 + flag value in
    let moved = shifted high bit k falling.0 in
    let own = bit_if_flag value k in
    let rest : n ≡ up * 2 ^ k + mask_with fields values = grind arith in
    let div : n / 2 ^ k ≡ up = ap (λ m. m / 2 ^ k) rest ∙ div-mul-add up (2 ^ k) (mask_with fields values) (mask_below k fields values falling.1) in
    let small = flag_below value in record {
      here = ap (λ m. m % 2 ^ 1) div ∙ omega arith;
      above = up;
      rest = rest;
    }

-- as many values as fields, one for each, and they fit
abbrev pub AllFit : List Field → FieldValues → Type 0
AllFit [] [] = Unit {0}
AllFit [] (value ∷ values) = ⊥
AllFit (field ∷ fields) [] = ⊥
AllFit (field ∷ fields) (value ∷ values) = IfSome value (FitsField field) × AllFit fields values

pub mask_sum : (n high bit : ℕ) (fields : List Field) (values : FieldValues) → Falling bit fields → AllFit fields values
    → n ≡ high * 2 ^ bit + mask_with fields values → sum_by (λ field. bit_in n field * 2 ^ bit_of field) fields ≡ mask_with fields values
mask_sum n high bit [] [] falling fit e = refl
mask_sum n high bit [] (value ∷ values) falling fit e = absurd fit
mask_sum n high bit (field ∷ fields) [] falling fit e = absurd fit
mask_sum n high bit (field ∷ fields) (value ∷ values) falling fit e =
    let p = peeled n high bit field fields value values falling e in
    let more = mask_sum n p.above (bit_of field) fields values falling.1 fit.1 p.rest in
    sum_by-cons (λ f. bit_in n f * 2 ^ bit_of f) field fields
    ∙ ap (λ m. m * 2 ^ bit_of field + sum_by (λ f. bit_in n f * 2 ^ bit_of f) fields) p.here
    ∙ ap (λ m. flag value * 2 ^ bit_of field + m) more
    ∙ ap (λ m. m + mask_with fields values) (sym (bit_if_flag value (bit_of field)))

length-words_of_value : (field : Field) (value : ℕ) → length (words_of_value (width_of field) value) ≡ width_of field
length-words_of_value ReferencePoint value = refl
length-words_of_value Bandwidth value = refl
length-words_of_value IfReference value = refl
length-words_of_value RfReference value = refl
length-words_of_value IfOffset value = refl
length-words_of_value ReferenceLevel value = refl
length-words_of_value Gain value = refl
length-words_of_value SampleRate value = refl
length-words_of_value TimeAdjustment value = refl
length-words_of_value Calibration value = refl
length-words_of_value State value = refl
length-words_of_value Format value = refl

pub length-words_if : (field : Field) (value : Option ℕ) → length (words_if value (width_of field)) ≡ flag value * width_of field
length-words_if field None = omega arith
length-words_if field (Some value) = length-words_of_value field value ∙ omega arith

pub width_sum : (n high bit : ℕ) (fields : List Field) (values : FieldValues) → Falling bit fields → AllFit fields values
    → n ≡ high * 2 ^ bit + mask_with fields values → sum_by (λ field. bit_in n field * width_of field) fields ≡ length (words_with fields values)
width_sum n high bit [] [] falling fit e = refl
width_sum n high bit [] (value ∷ values) falling fit e = absurd fit
width_sum n high bit (field ∷ fields) [] falling fit e = absurd fit
width_sum n high bit (field ∷ fields) (value ∷ values) falling fit e =
    let p = peeled n high bit field fields value values falling e in
    let more = width_sum n p.above (bit_of field) fields values falling.1 fit.1 p.rest in
    sum_by-cons (λ f. bit_in n f * width_of f) field fields
    ∙ ap (λ m. m * width_of field + sum_by (λ f. bit_in n f * width_of f) fields) p.here
    ∙ ap (λ m. flag value * width_of field + m) more
    ∙ ap (λ m. m + length (words_with fields values)) (sym (length-words_if field value))
    ∙ sym (length-append (words_if value (width_of field)) (words_with fields values))

-- a value is read again from its words
number_again_1 : (value : ℕ) (rest : List ℕ) → number_in 1 (words_of_value 1 value ++ rest) ≡ value
number_again_1 value rest = refl

number_again_2 : (value : ℕ) (rest : List ℕ) → number_in 2 (words_of_value 2 value ++ rest) ≡ value
number_again_2 value rest = omega arith

number_again : (field : Field) (value : ℕ) (rest : List ℕ) → number_in (width_of field) (words_of_value (width_of field) value ++ rest) ≡ value
number_again ReferencePoint value rest = number_again_1 value rest
number_again Bandwidth value rest = number_again_2 value rest
number_again IfReference value rest = number_again_2 value rest
number_again RfReference value rest = number_again_2 value rest
number_again IfOffset value rest = number_again_2 value rest
number_again ReferenceLevel value rest = number_again_1 value rest
number_again Gain value rest = number_again_1 value rest
number_again SampleRate value rest = number_again_2 value rest
number_again TimeAdjustment value rest = number_again_2 value rest
number_again Calibration value rest = number_again_1 value rest
number_again State value rest = number_again_1 value rest
number_again Format value rest = number_again_2 value rest

value_again : (field : Field) (value : Option ℕ) (rest : List ℕ) → first_value (flag value) (width_of field) (words_if value (width_of field) ++ rest) ≡ value
value_again field None rest = refl
value_again field (Some value) rest = ap Some (number_again field value rest)

behind_value : (field : Field) (value : Option ℕ) (rest : List ℕ) → drop (flag value * width_of field) (words_if value (width_of field) ++ rest) ≡ rest
behind_value field value rest =
    ap (λ n. drop n (words_if value (width_of field) ++ rest)) (sym (length-words_if field value))
    ∙ drop-append_seam (words_if value (width_of field)) rest

-- the values are read again from their words
pub values_again : (n high bit : ℕ) (fields : List Field) (values : FieldValues) → Falling bit fields → AllFit fields values
    → n ≡ high * 2 ^ bit + mask_with fields values → values_in n fields (words_with fields values) ≡ values
values_again n high bit [] [] falling fit e = refl
values_again n high bit [] (value ∷ values) falling fit e = absurd fit
values_again n high bit (field ∷ fields) [] falling fit e = absurd fit
values_again n high bit (field ∷ fields) (value ∷ values) falling fit e =
    let p = peeled n high bit field fields value values falling e in
    let all = words_with (field ∷ fields) (value ∷ values) in
    let rest = words_with fields values in
    let first : first_value (bit_in n field) (width_of field) all ≡ value =
    ap (λ m. first_value m (width_of field) all) p.here ∙ value_again field value rest in
    let behind : drop (taken n field) all ≡ rest =
    ap (λ m. drop (m * width_of field) all) p.here ∙ behind_value field value rest in
    let more = values_again n p.above (bit_of field) fields values falling.1 fit.1 p.rest in
    ap (λ v. v ∷ values_in n fields (drop (taken n field) all)) first
    ∙ ap (λ l. value ∷ values_in n fields l) behind
    ∙ ap (λ l. value ∷ l) more

-- what is read of words is values that fit, whose mask and words are those that were read
bit_cases : (n : ℕ) (field : Field) → bit_in n field < 2
bit_cases n field = omega arith

flag_first : (bit width : ℕ) (words : List ℕ) → bit < 2 → flag (first_value bit width words) ≡ bit
flag_first zero width words h = refl
flag_first (suc zero) width words h = refl
flag_first (suc (suc n)) width words h = absurd (omega arith)

pub mask_read : (n : ℕ) (fields : List Field) (words : List ℕ) → mask_with fields (values_in n fields words) ≡ sum_by (λ field. bit_in n field * 2 ^ bit_of field) fields
mask_read n [] words = refl
mask_read n (field ∷ fields) words =
    let value = first_value (bit_in n field) (width_of field) words in
    let rest = drop (taken n field) words in
    ap (λ m. m + mask_with fields (values_in n fields rest)) (bit_if_flag value (bit_of field))
    ∙ ap (λ m. m * 2 ^ bit_of field + mask_with fields (values_in n fields rest)) (flag_first (bit_in n field) (width_of field) words (bit_cases n field))
    ∙ ap (λ m. bit_in n field * 2 ^ bit_of field + m) (mask_read n fields rest)
    ∙ sym (sum_by-cons (λ f. bit_in n f * 2 ^ bit_of f) field fields)

fits_1 : (words : List ℕ) → AreWords words → number_in 1 words < 2 ^ 32
fits_1 words are = are 0

fits_2 : (words : List ℕ) → AreWords words → number_in 2 words < 2 ^ 64
fits_2 words are = omega (arith, are 0, are 1)

number_fits : (field : Field) (words : List ℕ) → AreWords words → FitsField field (number_in (width_of field) words)
number_fits ReferencePoint words are = fits_1 words are
number_fits Bandwidth words are = fits_2 words are
number_fits IfReference words are = fits_2 words are
number_fits RfReference words are = fits_2 words are
number_fits IfOffset words are = fits_2 words are
number_fits ReferenceLevel words are = fits_1 words are
number_fits Gain words are = fits_1 words are
number_fits SampleRate words are = fits_2 words are
number_fits TimeAdjustment words are = fits_2 words are
number_fits Calibration words are = fits_1 words are
number_fits State words are = fits_1 words are
number_fits Format words are = fits_2 words are

first_fits : (field : Field) (bit : ℕ) (words : List ℕ) → AreWords words → bit < 2 → IfSome (first_value bit (width_of field) words) (FitsField field)
first_fits field zero words are small = tt
first_fits field (suc zero) words are small = number_fits field words are
first_fits field (suc (suc n)) words are small = absurd (omega arith)

pub fits_read : (n : ℕ) (fields : List Field) (words : List ℕ) → AreWords words → AllFit fields (values_in n fields words)
fits_read n [] words are = tt
fits_read n (field ∷ fields) words are =
    (first_fits field (bit_in n field) words are (bit_cases n field), fits_read n fields (drop (taken n field) words) (AreWords-drop (taken n field) words are))

spelled_1 : (words : List ℕ) → 1 ≤ length words → words_of_value 1 (number_in 1 words) ≡ take 1 words
spelled_1 [] h = absurd (omega arith)
spelled_1 (a ∷ words) h = refl

high_again : (a b : ℕ) → b < 2 ^ 32 → (a * 2 ^ 32 + b) / 2 ^ 32 ≡ a
high_again a b h = omega arith

low_again : (a b : ℕ) → b < 2 ^ 32 → (a * 2 ^ 32 + b) % 2 ^ 32 ≡ b
low_again a b h = omega arith

spelled_2 : (words : List ℕ) → AreWords words → 2 ≤ length words → words_of_value 2 (number_in 2 words) ≡ take 2 words
spelled_2 [] are h = absurd (omega arith)
spelled_2 (a ∷ []) are h = absurd (omega arith)
spelled_2 (a ∷ b ∷ words) are h =
    ap (λ x. x ∷ (a * 2 ^ 32 + b) % 2 ^ 32 ∷ []) (high_again a b (are 1)) ∙ ap (λ x. a ∷ x ∷ []) (low_again a b (are 1))

spelled : (field : Field) (words : List ℕ) → AreWords words → width_of field ≤ length words
    → words_of_value (width_of field) (number_in (width_of field) words) ≡ take (width_of field) words
spelled ReferencePoint words are h = spelled_1 words h
spelled Bandwidth words are h = spelled_2 words are h
spelled IfReference words are h = spelled_2 words are h
spelled RfReference words are h = spelled_2 words are h
spelled IfOffset words are h = spelled_2 words are h
spelled ReferenceLevel words are h = spelled_1 words h
spelled Gain words are h = spelled_1 words h
spelled SampleRate words are h = spelled_2 words are h
spelled TimeAdjustment words are h = spelled_2 words are h
spelled Calibration words are h = spelled_1 words h
spelled State words are h = spelled_1 words h
spelled Format words are h = spelled_2 words are h

first_spelled : (field : Field) (bit : ℕ) (words : List ℕ) → AreWords words → bit < 2 → bit * width_of field ≤ length words
    → words_if (first_value bit (width_of field) words) (width_of field) ≡ take (bit * width_of field) words
first_spelled field zero words are small h =
    let none : 0 ≡ 0 * width_of field = omega arith in
    ap (λ n. take n words) none
first_spelled field (suc zero) words are small h =
    let one : 1 * width_of field ≡ width_of field = omega arith in
    spelled field words are (omega arith) ∙ ap (λ n. take n words) (sym one)
first_spelled field (suc (suc n)) words are small h = absurd (omega arith)

taken_both : (m n : ℕ) (words : List ℕ) → take m words ++ take n (drop m words) ≡ take (m + n) words
taken_both m n words = sym (take-add m n words)

pub words_read : (n : ℕ) (fields : List Field) (words : List ℕ) → AreWords words → sum_by (λ field. bit_in n field * width_of field) fields ≤ length words
    → words_with fields (values_in n fields words) ≡ take (sum_by (λ field. bit_in n field * width_of field) fields) words
words_read n [] words are h = refl
words_read n (field ∷ fields) words are h =
    let own = taken n field in
    let more = sum_by (λ f. bit_in n f * width_of f) fields in
    let whole = sum_by-cons (λ f. bit_in n f * width_of f) field fields in
    let there : own + more ≤ length words = subst (λ m. m ≤ length words) whole h in
    let first = first_spelled field (bit_in n field) words are (bit_cases n field) (omega arith) in
    let rest = words_read n fields (drop own words) (AreWords-drop own words are) (omega (arith, length-drop own words)) in
    ap (λ l. l ++ words_with fields (values_in n fields (drop own words))) first
    ∙ ap (λ l. take own words ++ l) rest
    ∙ taken_both own more words
    ∙ ap (λ m. take m words) (sym whole)

-- a set is one value or None for each field
all_fit : (set : FieldValues) → length set ≡ 12 → ((field : Field) → IfSome (value_of set field) (FitsField field)) → AllFit fields_in_order set
all_fit (a ∷ b ∷ c ∷ d ∷ e ∷ f ∷ g ∷ h ∷ i ∷ j ∷ k ∷ l ∷ []) size fits = (
  fits ReferencePoint,
  (
    fits Bandwidth,
    (
      fits IfReference,
      (
        fits RfReference,
        (
          fits IfOffset,
          (
            fits ReferenceLevel,
            (fits Gain, (fits SampleRate, (fits TimeAdjustment, (fits Calibration, (fits State, (fits Format, tt)))))),
          ),
        ),
      ),
    ),
  ),
)
all_fit set size fits = absurd (omega arith)

pub IsFieldSet-AllFit : (set : FieldValues) → IsFieldSet set → AllFit fields_in_order set
IsFieldSet-AllFit set p = all_fit set p.each p.fits

pub length-AllFit : (fields : List Field) (values : FieldValues) → AllFit fields values → length values ≡ length fields
length-AllFit [] [] fit = refl
length-AllFit [] (value ∷ values) fit = absurd fit
length-AllFit (field ∷ fields) [] fit = absurd fit
length-AllFit (field ∷ fields) (value ∷ values) fit = ap suc (length-AllFit fields values fit.1)

at_each : (set : FieldValues) → length set ≡ 12 → AllFit fields_in_order set → (field : Field) → IfSome (value_of set field) (FitsField field)
at_each (a ∷ b ∷ c ∷ d ∷ e ∷ f ∷ g ∷ h ∷ i ∷ j ∷ k ∷ l ∷ []) size p ReferencePoint = p.0
at_each (a ∷ b ∷ c ∷ d ∷ e ∷ f ∷ g ∷ h ∷ i ∷ j ∷ k ∷ l ∷ []) size p Bandwidth = p.1.0
at_each (a ∷ b ∷ c ∷ d ∷ e ∷ f ∷ g ∷ h ∷ i ∷ j ∷ k ∷ l ∷ []) size p IfReference = p.1.1.0
at_each (a ∷ b ∷ c ∷ d ∷ e ∷ f ∷ g ∷ h ∷ i ∷ j ∷ k ∷ l ∷ []) size p RfReference = p.1.1.1.0
at_each (a ∷ b ∷ c ∷ d ∷ e ∷ f ∷ g ∷ h ∷ i ∷ j ∷ k ∷ l ∷ []) size p IfOffset = p.1.1.1.1.0
at_each (a ∷ b ∷ c ∷ d ∷ e ∷ f ∷ g ∷ h ∷ i ∷ j ∷ k ∷ l ∷ []) size p ReferenceLevel = p.1.1.1.1.1.0
at_each (a ∷ b ∷ c ∷ d ∷ e ∷ f ∷ g ∷ h ∷ i ∷ j ∷ k ∷ l ∷ []) size p Gain = p.1.1.1.1.1.1.0
at_each (a ∷ b ∷ c ∷ d ∷ e ∷ f ∷ g ∷ h ∷ i ∷ j ∷ k ∷ l ∷ []) size p SampleRate = p.1.1.1.1.1.1.1.0
at_each (a ∷ b ∷ c ∷ d ∷ e ∷ f ∷ g ∷ h ∷ i ∷ j ∷ k ∷ l ∷ []) size p TimeAdjustment = p.1.1.1.1.1.1.1.1.0
at_each (a ∷ b ∷ c ∷ d ∷ e ∷ f ∷ g ∷ h ∷ i ∷ j ∷ k ∷ l ∷ []) size p Calibration = p.1.1.1.1.1.1.1.1.1.0
at_each (a ∷ b ∷ c ∷ d ∷ e ∷ f ∷ g ∷ h ∷ i ∷ j ∷ k ∷ l ∷ []) size p State = p.1.1.1.1.1.1.1.1.1.1.0
at_each (a ∷ b ∷ c ∷ d ∷ e ∷ f ∷ g ∷ h ∷ i ∷ j ∷ k ∷ l ∷ []) size p Format = p.1.1.1.1.1.1.1.1.1.1.1.0
at_each set size p field = absurd (omega arith)

pub AllFit-IsFieldSet : (set : FieldValues) → AllFit fields_in_order set → IsFieldSet set
AllFit-IsFieldSet set p = record {
  each = length-AllFit fields_in_order set p;
  fits = at_each set (length-AllFit fields_in_order set p) p;
}

as_high : (set : FieldValues) → mask_of set ≡ 0 * 2 ^ 31 + mask_of set
as_high set = omega arith

-- CIF0 of a set has the bits of its fields, and no other
pub mask_is_of_fields : (set : FieldValues) → IsFieldSet set → IsFieldMask (mask_of set)
mask_is_of_fields set p = sym (mask_sum (mask_of set) 0 31 fields_in_order set falling_order (IsFieldSet-AllFit set p) (as_high set))

-- and tells how many words they take
-- the bit of each field in the mask says whether it is there
bit_at : (n high bit : ℕ) (fields : List Field) (values : FieldValues) → Falling bit fields → AllFit fields values
    → n ≡ high * 2 ^ bit + mask_with fields values → (i : ℕ) (d : Field) → i < length fields → bit_in n (get_or fields i d) ≡ flag (get_or values i None)
bit_at n high bit [] values falling fit e i d h = absurd (omega arith)
bit_at n high bit (field ∷ fields) [] falling fit e i d h = absurd fit
bit_at n high bit (field ∷ fields) (value ∷ values) falling fit e zero d h = (peeled n high bit field fields value values falling e).here
bit_at n high bit (field ∷ fields) (value ∷ values) falling fit e (suc i) d h =
    let p = peeled n high bit field fields value values falling e in
    bit_at n p.above (bit_of field) fields values falling.1 fit.1 p.rest i d (omega arith)

pub mask_bit : (set : FieldValues) (i : ℕ) → IsFieldSet set → i < 12 → bit_in (mask_of set) (get_or fields_in_order i ReferencePoint) ≡ flag (get_or set i None)
mask_bit set i p h = bit_at (mask_of set) 0 31 fields_in_order set falling_order (IsFieldSet-AllFit set p) (as_high set) i ReferencePoint h

pub width_is_of_fields : (set : FieldValues) → IsFieldSet set → width_of_mask (mask_of set) ≡ length (words_of_set set)
width_is_of_fields set p = width_sum (mask_of set) 0 31 fields_in_order set falling_order (IsFieldSet-AllFit set p) (as_high set)

-- a set is read again from its CIF0 and its words
pub set_again : (set : FieldValues) → IsFieldSet set → values_in (mask_of set) fields_in_order (words_of_set set) ≡ set
set_again set p = values_again (mask_of set) 0 31 fields_in_order set falling_order (IsFieldSet-AllFit set p) (as_high set)

-- so CIF0 and the words belong to one set
pub one_set : (set other : FieldValues) → IsFieldSet set → IsFieldSet other → mask_of set ≡ mask_of other → words_of_set set ≡ words_of_set other → set ≡ other
one_set set other p q mask words =
    sym (set_again set p)
    ∙ ap (λ n. values_in n fields_in_order (words_of_set set)) mask
    ∙ ap (λ l. values_in (mask_of other) fields_in_order l) words
    ∙ set_again other q

-- a mask of fields and as many words as these take are those of a set
pub set_of_words : (mask : ℕ) (words : List ℕ) → IsFieldMask mask → AreWords words → length words ≡ width_of_mask mask
    → (set : FieldValues) × (IsFieldSet set × (mask_of set ≡ mask) × (words_of_set set ≡ words))
set_of_words mask words only fit all =
    let set = values_in mask fields_in_order words in (
      set,
      (
        AllFit-IsFieldSet set (fits_read mask fields_in_order words fit),
        mask_read mask fields_in_order words ∙ sym only,
        words_read mask fields_in_order words fit (omega arith) ∙ take_all (width_of_mask mask) words (omega arith),
      ),
    )
