-- Acknowledgements, one line for each part of their words.
use Rattle.std.specs.Prelude.{◌≡◌, ℕ, Bool, true, false, List, [], ◌∷◌, ◌++◌, length, take, drop, Option, Some, None}
use Rattle.vrt_header.specs.Profile.{PacketProfile}
use Rattle.vrt_fields.specs.FieldSet.{IsFieldSet, mask_of, words_of_set}
use Rattle.cam_field.specs.declared.modes.Role.TheVariants as roles
use Rattle.command_prologue.specs.CommandPrologue.{IsFront, command_words}
use Rattle.command_prologue.specs.declared.prologue.CommandPrologue.{CommandPrologue}
use Rattle.ack_codec.specs.Responses.{AreResponses, listed_words}
use Rattle.ack_codec.specs.declared.responses.Responses.{Responses}
use Rattle.ack_codec.specs.declared.ack.Ack.{Ack}
use Rattle.ack_codec.specs.declared.ack.Ack.TheVariants.{V, X, S}
use Rattle.ack_codec.specs.declared.ack.AckReport.{AckReport}
use Rattle.ack_codec.specs.declared.ack.AckState.{AckState}

-- what stands in front of the content, by the kind
abbrev pub front_of_report : AckReport → CommandPrologue
front_of_report report = record {
  prologue = report.prologue;
  cam = report.cam;
  message = report.message;
  controllee = report.controllee;
  controller = report.controller;
}

abbrev pub front_of_state : AckState → CommandPrologue
front_of_state state = record {
  prologue = state.prologue;
  cam = state.cam;
  message = state.message;
  controllee = state.controllee;
  controller = state.controller;
}

abbrev pub front_of : Ack → CommandPrologue
front_of (V report) = front_of_report report
front_of (X report) = front_of_report report
front_of (S state) = front_of_state state

-- the bit of the mode word that the kind has; no other of the three is set beside it
abbrev pub kind_bit : Ack → Bool
kind_bit (V report) = report.cam.v
kind_bit (X report) = report.cam.x
kind_bit (S state) = state.cam.s

-- responses are there exactly where the bit announces them
abbrev pub AreAnnounced : Bool → Option Responses → Type 0
AreAnnounced false None = Unit {0}
AreAnnounced true None = ⊥
AreAnnounced false (Some responses) = ⊥
AreAnnounced true (Some responses) = AreResponses responses

-- the mask of responses, where they are there
abbrev pub mask_words : Option Responses → List ℕ
mask_words None = []
mask_words (Some responses) = responses.cif0 ∷ []

-- and their words
abbrev pub response_words : Option Responses → List ℕ
response_words None = []
response_words (Some responses) = listed_words responses

-- WIF0, EIF0, the responses of the warnings, those of the errors
abbrev pub report_words : Option Responses → Option Responses → List ℕ
report_words warnings errors = mask_words warnings ++ (mask_words errors ++ (response_words warnings ++ response_words errors))

-- the words behind the identities, where warnings and errors are told
pub record IsReport (report : AckReport) (words : List ℕ) : Type 0 where
  pub warned : AreAnnounced report.cam.warned report.warnings
  pub erred : AreAnnounced report.cam.erred report.errors
  pub all : words ≡ report_words report.warnings report.errors

-- the words behind the identities, where the state is told: CIF0 and its fields
pub record IsState (state : AckState) (words : List ℕ) : Type 0 where
  pub fields : IsFieldSet state.fields
  pub all : words ≡ mask_of state.fields ∷ words_of_set state.fields

-- the words behind the identities, by the kind
abbrev pub IsContent : Ack → List ℕ → Type 0
IsContent (V report) words = IsReport report words
IsContent (X report) words = IsReport report words
IsContent (S state) words = IsState state words

-- these words, and no others, are an acknowledgement
pub record IsAck (profile : PacketProfile) (ack : Ack) (words : List ℕ) : Type 0 where
  pub front : IsFront profile roles.Ack (front_of ack) (take (command_words (front_of ack)) words)
  pub kind : kind_bit ack ≡ true
  pub content : IsContent ack (drop (command_words (front_of ack)) words)
  -- the size counts all the words
  pub size : (front_of ack).prologue.header.size ≡ length words
