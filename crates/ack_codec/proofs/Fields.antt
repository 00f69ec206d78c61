-- One more field of those in order, and of the words that stand beside them.
use Rattle.std.proofs.Common.{◌≡◌, ℕ, suc, ◌+◌, ◌<◌, ◌≤◌, List, [], ◌∷◌, ◌++◌, length, take, drop, get_or, sum_by, sym, ap, ◌∙◌, append_assoc, append-nil, length-append, arith}
use Rattle.std.proofs.Math.ListN.{set}
use Rattle.std.proofs.Math.Seq.{take-suc-set}
use Rattle.std.proofs.lemmas.List.{drop_more, take_all}
use Rattle.std.proofs.lemmas.List.Sums.{sum_by-cons}
use Rattle.vrt_fields.specs.declared.field.Field.{Field}
use Rattle.vrt_fields.specs.declared.field.Field.TheVariants.{ReferencePoint}
use Rattle.vrt_fields.specs.Field.{fields_in_order}
use Rattle.vrt_fields.specs.FieldSet.{bit_in}
use Rattle.ack_codec.specs.Responses.{word_if, listed_with}
use Rattle.ack_codec.proofs.ResponseLaws.{length-word_if}
use Rattle.ack_codec.specs.Steps.{first_response, responses_in}

-- one step, at the field with the number i
module _ (i : ℕ) (field : Field) (h : i < 12) (e : field ≡ get_or fields_in_order i ReferencePoint) where
  next_field : drop i fields_in_order ≡ field ∷ drop (i + 1) fields_in_order
  next_field = drop_more fields_in_order i ReferencePoint h ∙ ap (λ f. f ∷ drop (i + 1) fields_in_order) (sym e)

  pub bits_next : (mask : ℕ) → sum_by (λ f. bit_in mask f) (drop i fields_in_order)
      ≡ bit_in mask field + sum_by (λ f. bit_in mask f) (drop (i + 1) fields_in_order)
  bits_next mask = ap (λ l. sum_by (λ f. bit_in mask f) l) next_field ∙ sum_by-cons (λ f. bit_in mask f) field (drop (i + 1) fields_in_order)

  pub listed_next : (mask : ℕ) (words : List ℕ) → i < length words → listed_with mask (drop i fields_in_order) (drop i words)
      ≡ word_if (bit_in mask field) (get_or words i 0) ++ listed_with mask (drop (i + 1) fields_in_order) (drop (i + 1) words)
  listed_next mask words there =
      ap (λ l. listed_with mask l (drop i words)) next_field
      ∙ ap (λ l. listed_with mask (field ∷ drop (i + 1) fields_in_order) l) (drop_more words i 0 there)

  -- the response to one more field, behind those that were read
  pub responses_step : (mask : ℕ) (words rest behind : List ℕ) (word : ℕ) (all : List ℕ) → length words ≡ 12 → word ≡ first_response (bit_in mask field) rest
      → behind ≡ drop (bit_in mask field) rest → take i words ++ responses_in mask (drop i fields_in_order) rest ≡ all
      → take (i + 1) (set words i word) ++ responses_in mask (drop (i + 1) fields_in_order) behind ≡ all
  responses_step mask words rest behind word all size first next so_far =
      let more : i + 1 ≡ suc i = omega arith in
      let later = drop (i + 1) fields_in_order in
      ap (λ n. take n (set words i word) ++ responses_in mask later behind) more
      ∙ ap (λ l. l ++ responses_in mask later behind) (take-suc-set words i word (omega arith))
      ∙ append_assoc (take i words) (word ∷ []) (responses_in mask later behind)
      ∙ ap (λ w. take i words ++ w ∷ responses_in mask later behind) first
      ∙ ap (λ l. take i words ++ first_response (bit_in mask field) rest ∷ responses_in mask later l) next
      ∙ ap (λ l. take i words ++ l) (sym (ap (λ l. responses_in mask l rest) next_field))
      ∙ so_far

-- behind the last field nothing is left
pub listed_end : (mask i : ℕ) (words : List ℕ) → i ≡ 12 → listed_with mask (drop i fields_in_order) (drop i words) ≡ []
listed_end mask i words e = ap (λ n. listed_with mask (drop n fields_in_order) (drop n words)) e

pub responses_whole : (i mask : ℕ) (words all rest : List ℕ) → length words ≡ 12 → i ≡ 12
    → take i words ++ responses_in mask (drop i fields_in_order) rest ≡ all → words ≡ all
responses_whole i mask words all rest size e so_far =
    sym (take_all i words (omega arith)) ∙ sym (append-nil (take i words))
    ∙ ap (λ l. take i words ++ l) (sym (ap (λ n. responses_in mask (drop n fields_in_order) rest) e)) ∙ so_far

-- at most a word for each field is listed
listed_at_most : (mask : ℕ) (fields : List Field) (words : List ℕ) → length (listed_with mask fields words) ≤ length fields
listed_at_most mask [] words = omega arith
listed_at_most mask (field ∷ fields) [] = omega arith
listed_at_most mask (field ∷ fields) (word ∷ words) =
    omega (
      arith,
      listed_at_most mask fields words,
      length-word_if (bit_in mask field) word (omega arith),
      length-append (word_if (bit_in mask field) word) (listed_with mask fields words),
    )

pub listed_most : (mask : ℕ) (words : List ℕ) → length (listed_with mask fields_in_order words) ≤ 12
listed_most mask words = listed_at_most mask fields_in_order words

-- the words of one more field, behind those that are written
pub words_written : (done own rest : List ℕ) (count next : ℕ) (all : List ℕ) → take count done ++ (own ++ rest) ≡ all
    → (later : List ℕ) → take next later ≡ take count done ++ own → take next later ++ rest ≡ all
words_written done own rest count next all e later f = ap (λ l. l ++ rest) f ∙ append_assoc (take count done) own rest ∙ e
