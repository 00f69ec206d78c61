-- What goes on behind the identities of an acknowledgement; it serves the proofs of the refused place.
use Rattle.std.specs.Prelude.{◌≡◌, ◌≢◌, ℕ, ◌+◌, ◌-◌, ◌*◌, ◌<◌, ◌≤◌, ◌==◌, if◌then◌else◌, Bool, true, false, List, [], ◌∷◌, length, drop, slice_index, Option}
use Rattle.vrt_words.specs.Words.{words_of}
use Rattle.vrt_fields.specs.FieldSet.{IsFieldMask, width_of_mask, number_in_mask, bit_in, mask_of, words_of_set}
use Rattle.vrt_fields.specs.declared.field.Field.{Field}
use Rattle.cam_field.specs.Cam.{IsForRole}
use Rattle.cam_field.specs.declared.modes.Role.TheVariants as roles
use Rattle.command_prologue.specs.CommandPrologue.{IsContentSize, command_words}
use Rattle.vrt_words.specs.Growing.{IsStoppedAt}
use Rattle.command_prologue.specs.declared.prologue.CommandPrologue.{CommandPrologue}
use Rattle.ack_codec.specs.Ack.{front_of, kind_bit, AreAnnounced, report_words, IsContent}
use Rattle.ack_codec.specs.declared.responses.Responses.{Responses}
use Rattle.ack_codec.specs.declared.ack.Ack.{Ack}
use Rattle.ack_codec.specs.declared.ack.Ack.TheVariants.{V, X, S}
use Rattle.ack_codec.specs.declared.ack.AckReport.{AckReport}

-- the words that the size leaves for the content
abbrev pub left_of : CommandPrologue → ℕ
left_of front = front.prologue.header.size - command_words front

-- a front that leaves words for a content, which its mode word tells
pub record IsAckFront (front : CommandPrologue) : Type 0 where
  pub inside : command_words front ≤ front.prologue.header.size
  pub allowed : IsContentSize roles.Ack front.cam (left_of front)
  pub asked : IsForRole roles.Ack front.cam

-- Words with which a content of this size may go on. One mask announces as many words as its weight says.
abbrev pub IsBegunOne : (ℕ → ℕ) → ℕ → List ℕ → Type 0
IsBegunOne weight size [] = 1 ≤ size
IsBegunOne weight size (mask ∷ words) = IsFieldMask mask × ((1 + weight mask ≡ size) × (length words ≤ weight mask))

-- Two masks announce a word for each of their fields. Some second mask goes with the first.
abbrev pub IsBegunTwo : ℕ → List ℕ → Type 0
IsBegunTwo size [] = 2 ≤ size
IsBegunTwo size (first ∷ []) = IsFieldMask first × ((2 + number_in_mask first ≤ size) × (size ≤ 14 + number_in_mask first))
IsBegunTwo size (first ∷ second ∷ words) =
    IsFieldMask first × (IsFieldMask second
    × ((2 + number_in_mask first + number_in_mask second ≡ size) × (length words ≤ number_in_mask first + number_in_mask second)))

-- without a mask there is no content
abbrev pub IsBegunNone : ℕ → List ℕ → Type 0
IsBegunNone size words = length words ≡ 0

abbrev pub IsBegunReport : Bool → Bool → ℕ → List ℕ → Type 0
IsBegunReport false false = IsBegunNone
IsBegunReport true false = IsBegunOne number_in_mask
IsBegunReport false true = IsBegunOne number_in_mask
IsBegunReport true true = IsBegunTwo

abbrev pub IsBegunKind : Bool → Bool → Bool → ℕ → List ℕ → Type 0
IsBegunKind true warned erred = IsBegunOne width_of_mask
IsBegunKind false warned erred = IsBegunReport warned erred

abbrev pub IsBegun : CommandPrologue → List ℕ → Type 0
IsBegun front words = IsBegunKind front.cam.s front.cam.warned front.cam.erred (left_of front) words

-- The words from this one on go on so up to the place, and end or go wrong there; where they only end, the datagram has
-- not the length of its size.
pub record IsCutAt (IsOn : List ℕ → Type 0) (at size : ℕ) (bytes : List ℕ) (place : ℕ) : Type 0 where
  pub behind : ℕ
  pub told : place ≡ at + behind
  pub stopped : IsStoppedAt IsOn (drop at (words_of bytes)) behind
  pub unfinished : place ≡ length (words_of bytes) → length bytes ≢ 4 * size

-- the word at this place is a mask of fields
pub record IsMaskAt (words : List ℕ) (at mask : ℕ) : Type 0 where
  pub there : at < length words
  pub word : mask ≡ slice_index words at
  pub only : IsFieldMask mask

-- the acknowledgement that this front and the words behind it spell, in a datagram of its size
pub record IsReadBehind (front : CommandPrologue) (bytes : List ℕ) (ack : Ack) : Type 0 where
  pub same : front_of ack ≡ front
  pub kind : kind_bit ack ≡ true
  pub content : IsContent ack (drop (command_words front) (words_of bytes))
  pub whole : length bytes ≡ 4 * front.prologue.header.size

-- the responses that the words from this one on spell, in a datagram of this size
pub record AreReadAt (warned erred : Bool) (at size : ℕ) (bytes : List ℕ) (warnings errors : Option Responses) : Type 0 where
  pub told_warnings : AreAnnounced warned warnings
  pub told_errors : AreAnnounced erred errors
  pub all : drop at (words_of bytes) ≡ report_words warnings errors
  pub whole : length bytes ≡ 4 * size

-- a report with this front, of the kind that its mode word tells
abbrev pub report_with : CommandPrologue → Option Responses → Option Responses → AckReport
report_with front warnings errors = record {
  prologue = front.prologue;
  cam = front.cam;
  message = front.message;
  controllee = front.controllee;
  controller = front.controller;
  warnings = warnings;
  errors = errors;
}

abbrev pub told_of : CommandPrologue → Option Responses → Option Responses → Ack
told_of front warnings errors = if front.cam.v then V (report_with front warnings errors) else X (report_with front warnings errors)

-- the words behind the identities
abbrev pub content_words : Ack → List ℕ
content_words (V report) = report_words report.warnings report.errors
content_words (X report) = report_words report.warnings report.errors
content_words (S state) = mask_of state.fields ∷ words_of_set state.fields

-- the response to a field in the first of the words, where its bit is set
abbrev pub first_response : ℕ → List ℕ → ℕ
first_response bit words = if bit == 0 then 0 else slice_index words 0

-- the responses to some fields in words, those that the mask lists one after another
abbrev pub responses_in : ℕ → List Field → List ℕ → List ℕ
responses_in mask [] words = []
responses_in mask (field ∷ fields) words = first_response (bit_in mask field) words ∷ responses_in mask fields (drop (bit_in mask field) words)
