-- What goes on behind the prologue to a mode word and what it announces; it serves the proofs of the refused place.
use Rattle.std.specs.Prelude.{◌≡◌, ℕ, ◌+◌, ◌≤◌, List, [], ◌∷◌, length, take, drop, slice_index}
use Rattle.vrt_header.specs.declared.prologue.Prologue.{Prologue}
use Rattle.cam_field.specs.Ident.{ident_words, ident_size}
use Rattle.cam_field.specs.declared.cam.Cam.{Cam}
use Rattle.cam_field.specs.declared.modes.Role.{Role}
use Rattle.command_prologue.specs.CommandPrologue.{IsIdentity, IsMode, IsBehind, identity_words}
use Rattle.vrt_words.specs.Growing.{IsStoppedAt}
use Rattle.command_prologue.specs.declared.prologue.CommandPrologue.{CommandPrologue}

-- words behind this prologue with which a packet of the role may go on, up to the end of the identities
abbrev pub IsBegun : Role → Prologue → List ℕ → Type 0
IsBegun role p [] = Unit {0}
IsBegun role p (word ∷ words) = (cam : Cam) × (IsMode role p cam word × (length words ≤ 1 + identity_words cam))

-- the words behind the prologue go on so up to the place, and end or go wrong there
pub record IsCutAt (role : Role) (p : Prologue) (words : List ℕ) (place : ℕ) : Type 0 where
  pub stopped : IsStoppedAt (IsBegun role p) words place
  pub unfinished : (front : CommandPrologue) (n : ℕ) → front.prologue ≡ p → ¬ IsBehind role front (take n words)

-- the message identifier and the identities stand in front of these words
pub record AreNamed (front : CommandPrologue) (words : List ℕ) : Type 0 where
  pub message : front.message ≡ slice_index words 0
  pub controllee : IsIdentity front.cam.ce front.cam.ie front.controllee
  pub controllee_words : ident_words front.controllee ≡ take (ident_size front.cam.ce front.cam.ie) (drop 1 words)
  pub controller : IsIdentity front.cam.cr front.cam.ir front.controller
  pub controller_words : ident_words front.controller ≡ take (ident_size front.cam.cr front.cam.ir) (drop (1 + ident_size front.cam.ce front.cam.ie) words)
