-- Cancellations, one line for each part of their words.
use Rattle.std.specs.Prelude.{◌≡◌, ℕ, List, [], ◌∷◌, length, take, drop}
use Rattle.vrt_words.specs.Words.{AreWords}
use Rattle.vrt_header.specs.Profile.{PacketProfile}
use Rattle.vrt_fields.specs.FieldSet.{IsFieldMask}
use Rattle.cam_field.specs.declared.modes.Role.TheVariants as roles
use Rattle.command_prologue.specs.CommandPrologue.{IsFront, command_words}
use Rattle.command_prologue.specs.declared.prologue.CommandPrologue.{CommandPrologue}
use Rattle.command_codec.specs.declared.cancel.Cancel.{Cancel}

-- what stands in front
abbrev pub front_of : Cancel → CommandPrologue
front_of packet = record {
  prologue = packet.prologue;
  cam = packet.cam;
  message = packet.message;
  controllee = packet.controllee;
  controller = packet.controller;
}

-- these words, and no others, are a cancellation; behind the identities stands CIF0 alone
pub record IsCancel (profile : PacketProfile) (packet : Cancel) (words : List ℕ) : Type 0 where
  pub front : IsFront profile roles.Cancel (front_of packet) (take (command_words (front_of packet)) words)
  pub only : IsFieldMask packet.named
  pub content : drop (command_words (front_of packet)) words ≡ packet.named ∷ []
  -- the size counts all the words
  pub size : packet.prologue.header.size ≡ length words

-- these are the words of the cancellation
pub record AreWordsOf (profile : PacketProfile) (packet : Cancel) (words : List ℕ) : Type 0 where
  pub are_words : AreWords words
  pub told : IsCancel profile packet words

-- words can spell the cancellation
abbrev pub IsSpelled : PacketProfile → Cancel → Type 0
IsSpelled profile packet = (words : List ℕ) × AreWordsOf profile packet words
