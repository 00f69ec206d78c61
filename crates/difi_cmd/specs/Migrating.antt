-- What migrate tells from now on.
use Rattle.std.specs.Prelude.{◌≡◌, ◌≤◌, ℕ, Bool, true, false, List, [], length}
use Rattle.replay_form.specs.FrameFields.{Frame}
use Rattle.replay_form.specs.declared.record_head.RecordHead.{RecordHead}
use Rattle.record_run.specs.Tells.{Tells}
use Rattle.difi_cmd.specs.Migrated.{IsMigratedHead, IsBeforeFrames, IsMigrated}

-- whether the header came, and what of it is owed; how many frames were told of; and whether the end came
pub record Migrating : Type 0 where
  pub started : Bool
  pub owed : List ℕ
  pub frames : ℕ
  pub ended : Bool

-- all of the record; and, once the header came, what of it is owed, and the frames that are yet to come
abbrev pub IsToldBy : Bool → List ℕ → RecordHead → List Frame → List ℕ → Type 0
IsToldBy false owed head frames text = IsMigrated head frames text
IsToldBy true owed head frames text = IsBeforeFrames owed frames text

abbrev pub migrated_by : Migrating → Tells RecordHead Frame
migrated_by it = record {
  part = IsToldBy it.started it.owed;
  out = IsToldBy it.started it.owed;
  count = it.frames;
  owed = length it.owed;
  wants = false;
  started = it.started;
  ended = it.ended;
}

-- the header came, and is owed in form 2
pub record IsStarted (head : RecordHead) (old new : Migrating) : Type 0 where
  pub started : new.started ≡ true
  pub owed : IsMigratedHead head new.owed
  pub frames : new.frames ≡ old.frames
  pub ended : new.ended ≡ old.ended

-- the room for a header and its routes, until it came; what is owed of it is no more than that
abbrev pub HasRoom : {A : Type 0} → Bool → List ℕ → List A → ℕ → Type 0
HasRoom started owed routes room =
    (length owed ≤ 4428) × (started ≡ false → (length owed ≡ 4428) × ((routes ≡ []) × (256 ≤ room)))
