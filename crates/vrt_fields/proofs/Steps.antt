-- One more field of those in order, and of the values that stand beside them.
use Rattle.std.proofs.Common.{◌≡◌, ℕ, zero, suc, ◌+◌, ◌*◌, ◌^◌, ◌<◌, ◌≤◌, List, [], ◌∷◌, ◌++◌, length, take, drop, get_or, sum_by, Option, Some, None, IfSome, refl, sym, ap, ◌∙◌, subst, append_assoc, append-nil, length-append, arith}
use Rattle.std.proofs.Math.ListN.{set}
use Rattle.std.proofs.Math.Seq.{drop-cons, take-suc-set}
use Rattle.std.proofs.lemmas.List.{take_all}
use Rattle.std.proofs.lemmas.List.Sums.{sum_by-cons}
use Rattle.vrt_fields.specs.declared.field.Field.{Field}
use Rattle.vrt_fields.specs.declared.field.Field.TheVariants.{ReferencePoint}
use Rattle.vrt_fields.specs.Field.{bit_of, width_of, fields_in_order}
use Rattle.vrt_fields.specs.FieldSet.{FieldValues, FitsField, bit_if, mask_with, words_if, words_with, bit_in}
use Rattle.vrt_fields.specs.Values.{taken, first_value, values_in}
use Rattle.vrt_fields.proofs.FieldSetLaws.{AllFit, length-words_if, flag}

abbrev pub field_of_index : ℕ → Field
field_of_index i = get_or fields_in_order i ReferencePoint

abbrev pub value_at : FieldValues → ℕ → Option ℕ
value_at values i = get_or values i None

pub field_next : (i : ℕ) → i < 12 → drop i fields_in_order ≡ field_of_index i ∷ drop (suc i) fields_in_order
field_next i h = drop-cons fields_in_order i ReferencePoint h

pub value_next : (i : ℕ) (values : FieldValues) → i < length values → drop i values ≡ value_at values i ∷ drop (suc i) values
value_next i values h = drop-cons values i None h

-- one step, at the field with the number i
module _ (i : ℕ) (field : Field) (h : i < 12) (e : field ≡ get_or fields_in_order i ReferencePoint) where
  pub next_field : drop i fields_in_order ≡ field ∷ drop (i + 1) fields_in_order
  next_field =
      let more : suc i ≡ i + 1 = omega arith in
      field_next i h ∙ ap (λ f. f ∷ drop (suc i) fields_in_order) (sym e) ∙ ap (λ n. field ∷ drop n fields_in_order) more

  pub next_value : (values : FieldValues) → i < length values → drop i values ≡ get_or values i None ∷ drop (i + 1) values
  next_value values k =
      let more : suc i ≡ i + 1 = omega arith in
      value_next i values k ∙ ap (λ n. get_or values i None ∷ drop n values) more

  pub mask_next : (values : FieldValues) → i < length values → mask_with (drop i fields_in_order) (drop i values)
      ≡ bit_if (get_or values i None) (bit_of field) + mask_with (drop (i + 1) fields_in_order) (drop (i + 1) values)
  mask_next values k =
      ap (λ l. mask_with l (drop i values)) next_field
      ∙ ap (λ l. mask_with (field ∷ drop (i + 1) fields_in_order) l) (next_value values k)

  pub words_next : (values : FieldValues) → i < length values → words_with (drop i fields_in_order) (drop i values)
      ≡ words_if (get_or values i None) (width_of field) ++ words_with (drop (i + 1) fields_in_order) (drop (i + 1) values)
  words_next values k =
      ap (λ l. words_with l (drop i values)) next_field
      ∙ ap (λ l. words_with (field ∷ drop (i + 1) fields_in_order) l) (next_value values k)

  pub width_next : (cif0 : ℕ) → sum_by (λ f. bit_in cif0 f * width_of f) (drop i fields_in_order)
      ≡ taken cif0 field + sum_by (λ f. bit_in cif0 f * width_of f) (drop (i + 1) fields_in_order)
  width_next cif0 =
      ap (λ l. sum_by (λ f. bit_in cif0 f * width_of f) l) next_field
      ∙ sum_by-cons (λ f. bit_in cif0 f * width_of f) field (drop (i + 1) fields_in_order)

  pub number_next : (cif0 : ℕ) → sum_by (λ f. bit_in cif0 f) (drop i fields_in_order) ≡ bit_in cif0 field + sum_by (λ f. bit_in cif0 f) (drop (i + 1) fields_in_order)
  number_next cif0 = ap (λ l. sum_by (λ f. bit_in cif0 f) l) next_field ∙ sum_by-cons (λ f. bit_in cif0 f) field (drop (i + 1) fields_in_order)

  pub bits_next : (cif0 : ℕ) → sum_by (λ f. bit_in cif0 f * 2 ^ bit_of f) (drop i fields_in_order)
      ≡ bit_in cif0 field * 2 ^ bit_of field + sum_by (λ f. bit_in cif0 f * 2 ^ bit_of f) (drop (i + 1) fields_in_order)
  bits_next cif0 =
      ap (λ l. sum_by (λ f. bit_in cif0 f * 2 ^ bit_of f) l) next_field
      ∙ sum_by-cons (λ f. bit_in cif0 f * 2 ^ bit_of f) field (drop (i + 1) fields_in_order)

  pub values_next : (cif0 : ℕ) (words : List ℕ) → values_in cif0 (drop i fields_in_order) words
      ≡ first_value (bit_in cif0 field) (width_of field) words ∷ values_in cif0 (drop (i + 1) fields_in_order) (drop (taken cif0 field) words)
  values_next cif0 words = ap (λ l. values_in cif0 l words) next_field

-- behind the last field nothing is left
pub mask_end : (i : ℕ) (values : FieldValues) → i ≡ 12 → mask_with (drop i fields_in_order) (drop i values) ≡ 0
mask_end i values e = ap (λ n. mask_with (drop n fields_in_order) (drop n values)) e

pub words_end : (i : ℕ) (values : FieldValues) → i ≡ 12 → words_with (drop i fields_in_order) (drop i values) ≡ []
words_end i values e = ap (λ n. words_with (drop n fields_in_order) (drop n values)) e

pub width_end : (cif0 i : ℕ) → i ≡ 12 → sum_by (λ f. bit_in cif0 f * width_of f) (drop i fields_in_order) ≡ 0
width_end cif0 i e = ap (λ n. sum_by (λ f. bit_in cif0 f * width_of f) (drop n fields_in_order)) e

pub number_end : (cif0 i : ℕ) → i ≡ 12 → sum_by (λ f. bit_in cif0 f) (drop i fields_in_order) ≡ 0
number_end cif0 i e = ap (λ n. sum_by (λ f. bit_in cif0 f) (drop n fields_in_order)) e

pub values_end : (cif0 i : ℕ) (words : List ℕ) → i ≡ 12 → values_in cif0 (drop i fields_in_order) words ≡ []
values_end cif0 i words e = ap (λ n. values_in cif0 (drop n fields_in_order) words) e

-- at most all fields are there
bit_if_most : (v : Option ℕ) (k : ℕ) → bit_if v k ≤ 2 ^ k
bit_if_most None k = omega arith
bit_if_most (Some value) k = omega arith

pub mask_most : (fields : List Field) (values : FieldValues) → mask_with fields values ≤ sum_by (λ field. 2 ^ bit_of field) fields
mask_most [] values = omega arith
mask_most (field ∷ fields) [] = omega arith
mask_most (field ∷ fields) (value ∷ values) =
    omega (arith, sum_by-cons (λ f. 2 ^ bit_of f) field fields, mask_most fields values, bit_if_most value (bit_of field))

flag_most : (v : Option ℕ) (w : ℕ) → flag v * w ≤ w
flag_most None w = omega arith
flag_most (Some value) w = omega arith

pub words_most : (fields : List Field) (values : FieldValues) → length (words_with fields values) ≤ sum_by width_of fields
words_most [] values = omega arith
words_most (field ∷ fields) [] = omega arith
words_most (field ∷ fields) (value ∷ values) =
    omega (
      arith,
      sum_by-cons width_of field fields,
      words_most fields values,
      length-words_if field value,
      flag_most value (width_of field),
      length-append (words_if value (width_of field)) (words_with fields values),
    )

bit_times : (b w : ℕ) → b < 2 → b * w ≤ w
bit_times zero w h = omega arith
bit_times (suc zero) w h = omega arith
bit_times (suc (suc b)) w h = absurd (omega arith)

pub width_at_most : (cif0 : ℕ) (field : Field) → taken cif0 field ≤ width_of field
width_at_most cif0 field = bit_times (bit_in cif0 field) (width_of field) (omega arith)

pub width_most : (cif0 : ℕ) (fields : List Field) → sum_by (λ field. bit_in cif0 field * width_of field) fields ≤ sum_by width_of fields
width_most cif0 [] = omega arith
width_most cif0 (field ∷ fields) =
    omega (arith, sum_by-cons width_of field fields, sum_by-cons (λ f. bit_in cif0 f * width_of f) field fields, width_most cif0 fields, width_at_most cif0 field)

bit_at_most : (cif0 : ℕ) (field : Field) → bit_in cif0 field * 2 ^ bit_of field ≤ 2 ^ bit_of field
bit_at_most cif0 field = bit_times (bit_in cif0 field) (2 ^ bit_of field) (omega arith)

pub bits_most : (cif0 : ℕ) (fields : List Field) → sum_by (λ field. bit_in cif0 field * 2 ^ bit_of field) fields ≤ sum_by (λ field. 2 ^ bit_of field) fields
bits_most cif0 [] = omega arith
bits_most cif0 (field ∷ fields) =
    omega (
      arith,
      sum_by-cons (λ f. 2 ^ bit_of f) field fields,
      sum_by-cons (λ f. bit_in cif0 f * 2 ^ bit_of f) field fields,
      bits_most cif0 fields,
      bit_at_most cif0 field,
    )

pub all_bits : sum_by (λ field. 2 ^ bit_of field) fields_in_order ≡ 0x7BB98000
all_bits = refl

pub all_widths : sum_by width_of fields_in_order ≡ 19
all_widths = refl

-- what fits of all values fits of each
pub fits_next : (i : ℕ) (fields : List Field) (values : FieldValues) → AllFit fields values → i < length fields
    → IfSome (get_or values i None) (FitsField (get_or fields i ReferencePoint))
fits_next i [] values fit h = absurd (omega arith)
fits_next i (field ∷ fields) [] fit h = absurd fit
fits_next zero (field ∷ fields) (value ∷ values) fit h = fit.0
fits_next (suc i) (field ∷ fields) (value ∷ values) fit h = fits_next i fields values fit.1 (omega arith)

pub fits_at : (i : ℕ) (field : Field) (values : FieldValues) → AllFit fields_in_order values → i < 12 → field ≡ get_or fields_in_order i ReferencePoint
    → IfSome (get_or values i None) (FitsField field)
fits_at i field values fit h e = subst (λ f. IfSome (get_or values i None) (FitsField f)) (sym e) (fits_next i fields_in_order values fit h)

-- the words of one more field, behind those that are written
pub words_written : (done own rest : List ℕ) (count width : ℕ) (all : List ℕ) → take count done ++ (own ++ rest) ≡ all
    → (later : List ℕ) → take width later ≡ take count done ++ own → take width later ++ rest ≡ all
words_written done own rest count width all e later f =
    ap (λ l. l ++ rest) f ∙ append_assoc (take count done) own rest ∙ e

-- the value of one more field, behind those that were read
pub values_step : (i cif0 : ℕ) (field : Field) (h : i < 12) (e : field ≡ get_or fields_in_order i ReferencePoint) (values : FieldValues) (rest behind : List ℕ)
    (value : Option ℕ) (all : FieldValues) → length values ≡ 12 → value ≡ first_value (bit_in cif0 field) (width_of field) rest → behind ≡ drop (taken cif0 field) rest
    → take i values ++ values_in cif0 (drop i fields_in_order) rest ≡ all
    → take (i + 1) (set values i value) ++ values_in cif0 (drop (i + 1) fields_in_order) behind ≡ all
values_step i cif0 field h e values rest behind value all size first next so_far =
    let more : i + 1 ≡ suc i = omega arith in
    let later = drop (i + 1) fields_in_order in
    ap (λ n. take n (set values i value) ++ values_in cif0 later behind) more
    ∙ ap (λ l. l ++ values_in cif0 later behind) (take-suc-set values i value (omega arith))
    ∙ append_assoc (take i values) (value ∷ []) (values_in cif0 later behind)
    ∙ ap (λ v. take i values ++ v ∷ values_in cif0 later behind) first
    ∙ ap (λ l. take i values ++ first_value (bit_in cif0 field) (width_of field) rest ∷ values_in cif0 later l) next
    ∙ ap (λ l. take i values ++ l) (sym (values_next i field h e cif0 rest))
    ∙ so_far

pub values_whole : (i cif0 : ℕ) (values all : FieldValues) (rest : List ℕ) → length values ≡ 12 → i ≡ 12
    → take i values ++ values_in cif0 (drop i fields_in_order) rest ≡ all → values ≡ all
values_whole i cif0 values all rest size e so_far =
    sym (take_all i values (omega arith)) ∙ sym (append-nil (take i values))
    ∙ ap (λ l. take i values ++ l) (sym (values_end cif0 i rest e)) ∙ so_far
