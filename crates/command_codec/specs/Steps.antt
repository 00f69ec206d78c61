-- What the first word behind the identities may be in a command and in a cancellation; it serves the proofs of the refused place.
use Rattle.std.specs.Prelude.{◌≡◌, ◌≢◌, ◌⊎◌, ℕ, ◌+◌, Bool, true, false}
use Rattle.vrt_fields.specs.FieldSet.{IsFieldMask, width_of_mask}
use Rattle.cam_field.specs.declared.modes.Action.TheVariants as actions
use Rattle.command_prologue.specs.CommandPrologue.{command_words}
use Rattle.command_prologue.specs.declared.prologue.CommandPrologue.{CommandPrologue}

-- the size leaves the words of its fields, or none at all in a query
pub record IsAsked (front : CommandPrologue) (asked : ℕ) : Type 0 where
  pub only : IsFieldMask asked
  pub follows : (command_words front + 1 + width_of_mask asked ≡ front.prologue.header.size)
      ⊎ ((front.cam.action ≡ actions.None) × (command_words front + 1 ≡ front.prologue.header.size))

-- whether the words of its fields follow CIF0, or none in a query
pub record IsFollowed (front : CommandPrologue) (asked : ℕ) (holds : Bool) : Type 0 where
  pub only : IsFieldMask asked
  pub values : holds ≡ true → command_words front + 1 + width_of_mask asked ≡ front.prologue.header.size
  pub query : holds ≡ false → (front.cam.action ≡ actions.None) × (asked ≢ 0) × (command_words front + 1 ≡ front.prologue.header.size)

-- a cancellation's names fields
abbrev pub IsNamed : CommandPrologue → ℕ → Type 0
IsNamed front named = IsFieldMask named
