-- Commands, one line for each part of their words.
use Rattle.std.specs.Prelude.{◌≡◌, ◌≢◌, ℕ, List, [], ◌∷◌, length, take, drop, Option, Some, None}
use Rattle.vrt_words.specs.Words.{AreWords}
use Rattle.vrt_header.specs.Profile.{PacketProfile}
use Rattle.vrt_fields.specs.FieldSet.{FieldValues, IsFieldSet, mask_of, words_of_set, IsFieldMask}
use Rattle.cam_field.specs.declared.cam.Cam.{Cam}
use Rattle.cam_field.specs.declared.modes.Action.TheVariants as actions
use Rattle.cam_field.specs.declared.modes.Role.TheVariants as roles
use Rattle.command_prologue.specs.CommandPrologue.{IsFront, command_words}
use Rattle.command_prologue.specs.declared.prologue.CommandPrologue.{CommandPrologue}
use Rattle.command_codec.specs.declared.control.Control.{Control}

-- what stands in front
abbrev pub front_of : Control → CommandPrologue
front_of packet = record {
  prologue = packet.prologue;
  cam = packet.cam;
  message = packet.message;
  controllee = packet.controllee;
  controller = packet.controller;
}

-- the words behind CIF0: the values of its fields, or none in a query of some fields
abbrev pub AreValues : Cam → ℕ → Option FieldValues → List ℕ → Type 0
AreValues cam asked (Some set) words = IsFieldSet set × (mask_of set ≡ asked) × (words_of_set set ≡ words)
AreValues cam asked None words = (cam.action ≡ actions.None) × (asked ≢ 0) × (words ≡ [])

-- those words
abbrev pub words_of_values : Option FieldValues → List ℕ
words_of_values (Some set) = words_of_set set
words_of_values None = []

-- the words behind the identities: CIF0, and what stands behind it
pub record IsContent (packet : Control) (words : List ℕ) : Type 0 where
  pub only : IsFieldMask packet.asked
  pub behind : List ℕ
  pub all : words ≡ packet.asked ∷ behind
  pub values : AreValues packet.cam packet.asked packet.fields behind

-- these words, and no others, are a command
pub record IsControl (profile : PacketProfile) (packet : Control) (words : List ℕ) : Type 0 where
  pub front : IsFront profile roles.Control (front_of packet) (take (command_words (front_of packet)) words)
  pub content : IsContent packet (drop (command_words (front_of packet)) words)
  -- the size counts all the words
  pub size : packet.prologue.header.size ≡ length words

-- these are the words of the command
pub record AreWordsOf (profile : PacketProfile) (packet : Control) (words : List ℕ) : Type 0 where
  pub are_words : AreWords words
  pub told : IsControl profile packet words

-- words can spell the command
abbrev pub IsSpelled : PacketProfile → Control → Type 0
IsSpelled profile packet = (words : List ℕ) × AreWordsOf profile packet words
