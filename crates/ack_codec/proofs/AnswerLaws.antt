-- Responses made of one answer or None for each field.
use Rattle.std.proofs.Common.{◌≡◌, ◌≢◌, ℕ, ◌↔◌, get_or, map, Some, None, ap, ◌∙◌, arith}
use Rattle.std.proofs.lemmas.List.{get_or-map, length-map}
use Rattle.vrt_fields.specs.declared.field.Field.{Field}
use Rattle.vrt_fields.specs.FieldSet.{FieldValues, IsFieldSet, bit_in, index_of, value_of}
use Rattle.vrt_fields.proofs.FieldLaws.{bit_where_there, few, no_bit_where_none}
use Rattle.vrt_fields.proofs.FieldSetLaws.{mask_is_of_fields}
use Rattle.ack_codec.specs.Responses.{AreResponses, answered, responses_of}

-- the word of a field is what was answered to it
word_at : (answers : FieldValues) (field : Field) → IsFieldSet answers → get_or (map answered answers) (index_of field) 0 ≡ answered (value_of answers field)
word_at answers field p = get_or-map answered answers (index_of field) None 0 (omega (arith, p.each, few field))

pub made : (answers : FieldValues) → IsFieldSet answers → AreResponses (responses_of answers)
made answers p = record {
  mask = mask_is_of_fields answers p;
  each = length-map answers answered ∙ p.each;
  unlisted = λ field clear. word_at answers field p ∙ ap answered ((no_bit_where_none answers field p).0 clear);
}

pub listed : (answers : FieldValues) (field : Field) → IsFieldSet answers → (bit_in (responses_of answers).cif0 field ≡ 1) ↔ (value_of answers field ≢ None)
listed answers field p = bit_where_there answers field p

pub told : (answers : FieldValues) (field : Field) (word : ℕ) → IsFieldSet answers → value_of answers field ≡ Some word
    → get_or (responses_of answers).words (index_of field) 0 ≡ word
told answers field word p e = word_at answers field p ∙ ap answered e
