-- Laws of responses: a mask and the words under it are those of one list of responses.
use Rattle.std.proofs.Common.{◌≡◌, ℕ, zero, suc, ◌+◌, ◌<◌, ◌≤◌, List, [], ◌∷◌, ◌++◌, length, take, drop, get_or, sum_by, refl, sym, ap, ◌∙◌, subst, arith, length-append, length-drop, take-add}
use Rattle.std.proofs.lemmas.List.Sums.{sum_by-cons}
use Rattle.vrt_fields.specs.Field.{fields_in_order}
use Rattle.vrt_fields.specs.FieldSet.{index_of, bit_in, number_in_mask, IsFieldMask}
use Rattle.vrt_fields.specs.declared.field.Field.{Field}
use Rattle.vrt_fields.specs.declared.field.Field.TheVariants.{ReferencePoint, Bandwidth, IfReference, RfReference, IfOffset, ReferenceLevel, Gain, SampleRate, TimeAdjustment, Calibration, State, Format}
use Rattle.ack_codec.specs.declared.responses.Responses.{Responses}
use Rattle.ack_codec.specs.Responses.{word_if, listed_with, listed_words, AreResponses}
use Rattle.ack_codec.specs.Steps.{first_response, responses_in}

bit_cases : (mask : ℕ) (field : Field) → bit_in mask field < 2
bit_cases mask field = omega arith

pub length-word_if : (bit word : ℕ) → bit < 2 → length (word_if bit word) ≡ bit
length-word_if zero word h = refl
length-word_if (suc zero) word h = refl
length-word_if (suc (suc n)) word h = absurd (omega arith)

-- a word for each bit of the mask
pub length-listed_with : (mask : ℕ) (fields : List Field) (words : List ℕ) → length words ≡ length fields
    → length (listed_with mask fields words) ≡ sum_by (λ field. bit_in mask field) fields
length-listed_with mask [] words h = refl
length-listed_with mask (field ∷ fields) [] h = absurd (omega arith)
length-listed_with mask (field ∷ fields) (word ∷ words) h =
    length-append (word_if (bit_in mask field) word) (listed_with mask fields words)
    ∙ ap (λ n. n + length (listed_with mask fields words)) (length-word_if (bit_in mask field) word (bit_cases mask field))
    ∙ ap (λ n. bit_in mask field + n) (length-listed_with mask fields words (omega arith))
    ∙ sym (sum_by-cons (λ f. bit_in mask f) field fields)

pub length-listed_words : (responses : Responses) → AreResponses responses → length (listed_words responses) ≡ number_in_mask responses.cif0
length-listed_words responses is = length-listed_with responses.cif0 fields_in_order responses.words is.each

-- the word of a field that is not listed is 0
abbrev pub AllUnlisted : ℕ → List Field → List ℕ → Type 0
AllUnlisted mask [] [] = Unit {0}
AllUnlisted mask [] (word ∷ words) = ⊥
AllUnlisted mask (field ∷ fields) [] = ⊥
AllUnlisted mask (field ∷ fields) (word ∷ words) = (bit_in mask field ≡ 0 → word ≡ 0) × AllUnlisted mask fields words

response_again : (bit word : ℕ) (rest : List ℕ) → bit < 2 → (bit ≡ 0 → word ≡ 0) → first_response bit (word_if bit word ++ rest) ≡ word
response_again zero word rest h none = sym (none refl)
response_again (suc zero) word rest h none = refl
response_again (suc (suc n)) word rest h none = absurd (omega arith)

behind_response : (bit word : ℕ) (rest : List ℕ) → bit < 2 → drop bit (word_if bit word ++ rest) ≡ rest
behind_response zero word rest h = refl
behind_response (suc zero) word rest h = refl
behind_response (suc (suc n)) word rest h = absurd (omega arith)

-- responses are read again from the words that list them
pub responses_again : (mask : ℕ) (fields : List Field) (words : List ℕ) → AllUnlisted mask fields words → responses_in mask fields (listed_with mask fields words) ≡ words
responses_again mask [] [] h = refl
responses_again mask [] (word ∷ words) h = absurd h
responses_again mask (field ∷ fields) [] h = absurd h
responses_again mask (field ∷ fields) (word ∷ words) h =
    let bit = bit_in mask field in
    let rest = listed_with mask fields words in
    ap (λ x. x ∷ responses_in mask fields (drop bit (word_if bit word ++ rest))) (response_again bit word rest (bit_cases mask field) h.0)
    ∙ ap (λ xs. word ∷ responses_in mask fields xs) (behind_response bit word rest (bit_cases mask field))
    ∙ ap (λ xs. word ∷ xs) (responses_again mask fields words h.1)

first_unlisted : (bit : ℕ) (words : List ℕ) → bit ≡ 0 → first_response bit words ≡ 0
first_unlisted zero words e = refl
first_unlisted (suc n) words e = absurd (omega arith)

pub unlisted_read : (mask : ℕ) (fields : List Field) (words : List ℕ) → AllUnlisted mask fields (responses_in mask fields words)
unlisted_read mask [] words = tt
unlisted_read mask (field ∷ fields) words =
    (first_unlisted (bit_in mask field) words, unlisted_read mask fields (drop (bit_in mask field) words))

first_listed : (bit : ℕ) (words : List ℕ) → bit < 2 → bit ≤ length words → word_if bit (first_response bit words) ≡ take bit words
first_listed zero words small h = refl
first_listed (suc zero) [] small h = absurd (omega arith)
first_listed (suc zero) (word ∷ words) small h = refl
first_listed (suc (suc n)) words small h = absurd (omega arith)

-- and the words list again the responses that were read from them
pub listed_read : (mask : ℕ) (fields : List Field) (words : List ℕ) → sum_by (λ field. bit_in mask field) fields ≤ length words
    → listed_with mask fields (responses_in mask fields words) ≡ take (sum_by (λ field. bit_in mask field) fields) words
listed_read mask [] words h = refl
listed_read mask (field ∷ fields) words h =
    let own = bit_in mask field in
    let more = sum_by (λ f. bit_in mask f) fields in
    let whole = sum_by-cons (λ f. bit_in mask f) field fields in
    let there : own + more ≤ length words = subst (λ n. n ≤ length words) whole h in
    let first = first_listed own words (bit_cases mask field) (omega arith) in
    let rest = listed_read mask fields (drop own words) (omega (arith, length-drop own words)) in
    ap (λ xs. xs ++ listed_with mask fields (responses_in mask fields (drop own words))) first
    ∙ ap (λ xs. take own words ++ xs) rest
    ∙ sym (take-add own more words)
    ∙ ap (λ n. take n words) (sym whole)

pub length-responses_in : (mask : ℕ) (fields : List Field) (words : List ℕ) → length (responses_in mask fields words) ≡ length fields
length-responses_in mask [] words = refl
length-responses_in mask (field ∷ fields) words = ap suc (length-responses_in mask fields (drop (bit_in mask field) words))

-- twelve words, one for each field
all_unlisted : (mask : ℕ) (words : List ℕ) → length words ≡ 12 → ((field : Field) → bit_in mask field ≡ 0 → get_or words (index_of field) 0 ≡ 0)
    → AllUnlisted mask fields_in_order words
all_unlisted mask (a ∷ b ∷ c ∷ d ∷ e ∷ f ∷ g ∷ h ∷ i ∷ j ∷ k ∷ l ∷ []) size none = (
  none ReferencePoint,
  (
    none Bandwidth,
    (
      none IfReference,
      (
        none RfReference,
        (
          none IfOffset,
          (
            none ReferenceLevel,
            (none Gain, (none SampleRate, (none TimeAdjustment, (none Calibration, (none State, (none Format, tt)))))),
          ),
        ),
      ),
    ),
  ),
)
all_unlisted mask words size none = absurd (omega arith)

at_each : (mask : ℕ) (words : List ℕ) → length words ≡ 12 → AllUnlisted mask fields_in_order words → (field : Field) → bit_in mask field ≡ 0 → get_or words (index_of field) 0 ≡ 0
at_each mask (a ∷ b ∷ c ∷ d ∷ e ∷ f ∷ g ∷ h ∷ i ∷ j ∷ k ∷ l ∷ []) size p ReferencePoint = p.0
at_each mask (a ∷ b ∷ c ∷ d ∷ e ∷ f ∷ g ∷ h ∷ i ∷ j ∷ k ∷ l ∷ []) size p Bandwidth = p.1.0
at_each mask (a ∷ b ∷ c ∷ d ∷ e ∷ f ∷ g ∷ h ∷ i ∷ j ∷ k ∷ l ∷ []) size p IfReference = p.1.1.0
at_each mask (a ∷ b ∷ c ∷ d ∷ e ∷ f ∷ g ∷ h ∷ i ∷ j ∷ k ∷ l ∷ []) size p RfReference = p.1.1.1.0
at_each mask (a ∷ b ∷ c ∷ d ∷ e ∷ f ∷ g ∷ h ∷ i ∷ j ∷ k ∷ l ∷ []) size p IfOffset = p.1.1.1.1.0
at_each mask (a ∷ b ∷ c ∷ d ∷ e ∷ f ∷ g ∷ h ∷ i ∷ j ∷ k ∷ l ∷ []) size p ReferenceLevel = p.1.1.1.1.1.0
at_each mask (a ∷ b ∷ c ∷ d ∷ e ∷ f ∷ g ∷ h ∷ i ∷ j ∷ k ∷ l ∷ []) size p Gain = p.1.1.1.1.1.1.0
at_each mask (a ∷ b ∷ c ∷ d ∷ e ∷ f ∷ g ∷ h ∷ i ∷ j ∷ k ∷ l ∷ []) size p SampleRate = p.1.1.1.1.1.1.1.0
at_each mask (a ∷ b ∷ c ∷ d ∷ e ∷ f ∷ g ∷ h ∷ i ∷ j ∷ k ∷ l ∷ []) size p TimeAdjustment = p.1.1.1.1.1.1.1.1.0
at_each mask (a ∷ b ∷ c ∷ d ∷ e ∷ f ∷ g ∷ h ∷ i ∷ j ∷ k ∷ l ∷ []) size p Calibration = p.1.1.1.1.1.1.1.1.1.0
at_each mask (a ∷ b ∷ c ∷ d ∷ e ∷ f ∷ g ∷ h ∷ i ∷ j ∷ k ∷ l ∷ []) size p State = p.1.1.1.1.1.1.1.1.1.1.0
at_each mask (a ∷ b ∷ c ∷ d ∷ e ∷ f ∷ g ∷ h ∷ i ∷ j ∷ k ∷ l ∷ []) size p Format = p.1.1.1.1.1.1.1.1.1.1.1.0
at_each mask words size p field = absurd (omega arith)

same_responses : (a b : Responses) → a.cif0 ≡ b.cif0 → a.words ≡ b.words → a ≡ b
same_responses a b p q = grind arith

-- the mask and the words that list responses belong to one value
pub one_responses : (a b : Responses) → AreResponses a → AreResponses b → a.cif0 ≡ b.cif0 → listed_words a ≡ listed_words b → a ≡ b
one_responses a b p q mask words =
    let first = responses_again a.cif0 fields_in_order a.words (all_unlisted a.cif0 a.words p.each p.unlisted) in
    let second = responses_again b.cif0 fields_in_order b.words (all_unlisted b.cif0 b.words q.each q.unlisted) in
    same_responses a b mask
    (sym first ∙ ap (λ xs. responses_in a.cif0 fields_in_order xs) words ∙ ap (λ m. responses_in m fields_in_order (listed_words b)) mask ∙ second)

-- the responses in words under a mask
abbrev pub responses_under : ℕ → List ℕ → Responses
responses_under mask words = record { cif0 = mask; words = responses_in mask fields_in_order words }

pub responses_read : (responses : Responses) (words : List ℕ) → IsFieldMask responses.cif0 → responses.words ≡ responses_in responses.cif0 fields_in_order words → AreResponses responses
responses_read responses words only same =
    let each : length responses.words ≡ 12 = ap length same ∙ length-responses_in responses.cif0 fields_in_order words in
    record {
      mask = only;
      each = each;
      unlisted = at_each responses.cif0 responses.words each (subst (AllUnlisted responses.cif0 fields_in_order) (sym same) (unlisted_read responses.cif0 fields_in_order words));
    }

-- at most all twelve are listed
number_most : (mask : ℕ) (fields : List Field) → sum_by (λ field. bit_in mask field) fields ≤ length fields
number_most mask [] = omega arith
number_most mask (field ∷ fields) = omega (arith, sum_by-cons (λ f. bit_in mask f) field fields, number_most mask fields, bit_cases mask field)

pub at_most_twelve : (mask : ℕ) → number_in_mask mask ≤ 12
at_most_twelve mask = number_most mask fields_in_order
