-- What replay tells of a record: the records of its releases.
use Rattle.std.specs.Prelude.{◌≡◌, ℕ, false, true, List, ◌++◌, map, take}
use Rattle.vrt_words.specs.Words.{AreBytes}
use Rattle.replay_form.specs.FrameFields.{Frame}
use Rattle.replay_form.specs.Record.{IsRecord}
use Rattle.replay_form.specs.RecordGrammar.{record_grammar}
use Rattle.replay_form.specs.Standing.{HasFrames}
use Rattle.replay_form.specs.declared.record_head.RecordHead.{RecordHead}
use Rattle.record_run.specs.Outcome.{Behaviour, IsOutcome, IsOutput, IsPart, Moves}
use Rattle.record_run.specs.Tells.{Tells}
use Rattle.record_run.specs.declared.status.Status.{Status}
use Rattle.record_run.specs.declared.status.Status.TheVariants.{Done, Usage, ReadFault, WriteFault, Memory, BadRecord, TooLong}
use Rattle.difi_gateway.specs.Contents.{Received, AreReceived, frame_of}
use Rattle.difi_gateway.specs.Isolation.{AreStreamRecords, only}
use Rattle.difi_gateway.specs.Releases.{IsPartOf, IsOutOf, Release, out_of, part_of}

-- of the frames that stand whole, and of all with the end; memory is taken at the header
abbrev pub replay_tells : Tells RecordHead Frame
replay_tells = record {
  part = IsPartOf;
  out = IsOutOf;
  count = 0;
  owed = 0;
  wants = true;
  started = false;
  ended = false;
}

abbrev pub replay_of : ℕ → Behaviour RecordHead Frame
replay_of most = record { most = most; grammar = record_grammar; tells = replay_tells }

-- ---- more bytes

-- the text stands at the front of the other
abbrev pub Begins : List ℕ → List ℕ → Type 0
Begins text all = (rest : List ℕ) × (all ≡ text ++ rest)

-- the text begins what is told of all bytes that begin with these, as far as they go and as a whole record
pub record BeginsEach (behaviour : Behaviour RecordHead Frame) (bytes text : List ℕ) : Type 0 where
  pub part : (more all : List ℕ) → IsPart behaviour (bytes ++ more) all → Begins text all
  pub whole : (more all : List ℕ) → IsOutput behaviour (bytes ++ more) all → Begins text all

-- ---- one stream

-- of these frames the data packets and the contexts of a stream
abbrev pub AreOwnFrames : RecordHead → ℕ → List Frame → List Frame → Type 0
AreOwnFrames head stream frames own = (received : List Received) × (AreReceived head frames received × (own ≡ map frame_of (only stream received)))

-- among the records of the releases of frames, those of a stream
abbrev pub AreRecordsIn : (RecordHead → List Received → List Release) → RecordHead → ℕ → List Frame → List ℕ → List ℕ → Type 0
AreRecordsIn releases head stream frames text part =
    (received : List Received) × (AreReceived head frames received × AreStreamRecords stream (releases head received) text part)

-- The records of a stream in the text of frames are those in the text of its own frames alone: they are there, and the same bytes.
pub record KeepsStreamsApart (releases : RecordHead → List Received → List Release) (head : RecordHead) (frames : List Frame) (text : List ℕ) : Type 0 where
  pub there : (stream : ℕ) → (part : List ℕ) × AreRecordsIn releases head stream frames text part
  pub same : (stream : ℕ) (own : List Frame) (alone part other : List ℕ) → AreOwnFrames head stream frames own
      → AreRecordsIn releases head stream frames text part → AreRecordsIn releases head stream own alone other → part ≡ other

-- ---- the call

-- it ended before the end of the record was told, and all was written that is told of the frames that were read
abbrev pub IsCutShort : Status → Type 0
IsCutShort ReadFault = Unit {0}
IsCutShort (BadRecord offset) = Unit {0}
IsCutShort TooLong = Unit {0}
IsCutShort Done = ⊥
IsCutShort Usage = ⊥
IsCutShort WriteFault = ⊥
IsCutShort Memory = ⊥

-- How it ended. Where it was cut short, what was written begins what is written of all bytes that begin with those that were taken. Each
-- stream's records are those of its own frames, in a whole record and in one that was cut short.
pub record IsReplayed (status : Status) (most : ℕ) (moves : Moves) : Type 0 where
  pub outcome : IsOutcome status (replay_of most) moves
  pub begins : IsCutShort status → BeginsEach (replay_of most) outcome.bytes outcome.text
  pub apart : status ≡ Done → AreBytes outcome.bytes → (head : RecordHead) (frames : List Frame) → IsRecord head frames outcome.bytes
      → KeepsStreamsApart out_of head frames outcome.text
  pub apart_so_far : IsCutShort status → (head : RecordHead) (frames : List Frame) → HasFrames head frames (take most outcome.bytes)
      → KeepsStreamsApart part_of head frames outcome.text
