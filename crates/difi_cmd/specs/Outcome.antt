-- What a line does: how many bytes it judges, what they are, and what it tells of them.
use Rattle.std.specs.Prelude.{Bool, List, ℕ, false, true}
use Rattle.replay_form.specs.FrameFields.{Frame}
use Rattle.replay_form.specs.RecordGrammar.{record_grammar}
use Rattle.replay_form.specs.declared.record_head.RecordHead.{RecordHead}
use Rattle.record_run.specs.Outcome.{Behaviour, Moves, IsOutcome, IsVerdict}
use Rattle.record_run.specs.Tells.{Tells}
use Rattle.difi_texts.specs.declared.lines.Listing.{Listing}
use Rattle.record_run.specs.declared.status.Status.{Status}
use Rattle.difi_cmd.specs.declared.words.Line.{Line}
use Rattle.difi_cmd.specs.declared.words.Line.TheVariants as lines
use Rattle.difi_cmd.specs.declared.words.ListOptions.{ListOptions}
use Rattle.difi_cmd.specs.Text.{AreEntries, IsWholeText}
use Rattle.difi_gateway.specs.Replayed.{IsReplayed}
use Rattle.difi_cmd.specs.Migrated.{IsMigrated}

-- what check and show tell of a record
abbrev pub told_of : Listing → Tells RecordHead Frame
told_of listing = record {
  part = AreEntries listing;
  out = IsWholeText listing;
  count = 0;
  owed = 0;
  wants = false;
  started = true;
  ended = false;
}

-- what migrate tells of it
abbrev pub migrated_of : Tells RecordHead Frame
migrated_of = record {
  part = IsMigrated;
  out = IsMigrated;
  count = 0;
  owed = 0;
  wants = false;
  started = false;
  ended = false;
}

abbrev pub behaviour_of : ListOptions → Behaviour RecordHead Frame
behaviour_of options = record { most = options.max_bytes; grammar = record_grammar; tells = told_of options.listing }

abbrev pub migration_of : ℕ → Behaviour RecordHead Frame
migration_of most = record { most = most; grammar = record_grammar; tells = migrated_of }

-- whether the line takes memory once the header stands, for the routes that it lists
abbrev pub wants_of : Line → Bool
wants_of (lines.List options) = false
wants_of (lines.Migrate most) = false
wants_of (lines.Replay most) = true

-- the outcome of what the line does, and of replay what was written beside that of other records
abbrev pub DoesLine : Status → Line → Moves → Type 0
DoesLine status (lines.List options) moves = IsOutcome status (behaviour_of options) moves
DoesLine status (lines.Migrate most) moves = IsOutcome status (migration_of most) moves
DoesLine status (lines.Replay most) moves = IsReplayed status most moves

-- the status that the bytes give, where no read and no write fails
abbrev pub IsLineVerdict : Line → List ℕ → Status → Type 0
IsLineVerdict (lines.List options) bytes status = IsVerdict record_grammar options.max_bytes bytes status
IsLineVerdict (lines.Migrate most) bytes status = IsVerdict record_grammar most bytes status
IsLineVerdict (lines.Replay most) bytes status = IsVerdict record_grammar most bytes status
