-- Responses to fields: which fields of a command are listed, and a word for each of them.
use Rattle.std.specs.Prelude.{◌≡◌, ℕ, ◌==◌, if◌then◌else◌, List, [], ◌∷◌, ◌++◌, length, map, slice_index, Option, Some, None}
use Rattle.vrt_fields.specs.Field.{fields_in_order}
use Rattle.vrt_fields.specs.FieldSet.{FieldValues, index_of, bit_in, mask_of, IsFieldMask}
use Rattle.vrt_fields.specs.declared.field.Field.{Field}
use Rattle.ack_codec.specs.declared.responses.Responses.{Responses}

-- the word of a field whose bit is set, and no word for another
abbrev pub word_if : ℕ → ℕ → List ℕ
word_if bit word = if bit == 0 then [] else word ∷ []

-- the words of those of some fields that the mask lists; their words stand beside the fields
abbrev pub listed_with : ℕ → List Field → List ℕ → List ℕ
listed_with mask [] words = []
listed_with mask (field ∷ fields) [] = []
listed_with mask (field ∷ fields) (word ∷ words) = word_if (bit_in mask field) word ++ listed_with mask fields words

-- the words as they stand in a packet: one for each bit of the mask, from the highest down
abbrev pub listed_words : Responses → List ℕ
listed_words responses = listed_with responses.cif0 fields_in_order responses.words

-- a mask of fields and a word for each of the twelve, which is 0 for a field that is not listed
pub record AreResponses (responses : Responses) : Type 0 where
  pub mask : IsFieldMask responses.cif0
  pub each : length responses.words ≡ 12
  pub unlisted : (field : Field) → bit_in responses.cif0 field ≡ 0 → slice_index responses.words (index_of field) ≡ 0

-- what was answered to a field, and 0 where nothing was
abbrev pub answered : Option ℕ → ℕ
answered None = 0
answered (Some word) = word

-- the responses that one answer or None for each of the twelve fields makes
abbrev pub responses_of : FieldValues → Responses
responses_of answers = record { cif0 = mask_of answers; words = map answered answers }
