-- What a reader of a capture knows, and one call of it.
use Rattle.std.specs.Prelude.{◌≡◌, ℕ, ◌+◌, ◌<◌, ◌≤◌, ◌^◌, IsSome, Bool, true, false, if◌then◌else◌, List, [], ◌∷◌, ◌++◌, length, take, drop, Option, Some, None}
use Rattle.vrt_time.specs.Time.{TimeStamp}
use Rattle.replay_form.specs.Head.{IsHead}
use Rattle.replay_form.specs.HeadFields.{IsHeadPart, IsHeadWrongAt}
use Rattle.replay_form.specs.Reading.{kept_of, whole_bytes}
use Rattle.replay_form.specs.Reading.{Reading as HeaderReading, IsFresh as IsFreshHeader, begun as header_begun}
use Rattle.replay_form.specs.declared.event.RecordFault.{RecordFault}
use Rattle.pcap_frames.specs.CaptureFields.{Captured, IsCaptured, IsFileHead, IsFilePart, IsFileWrongAt, IsRecordPart, IsRecordWrongAt, IsWholeRecord, captured_in}
use Rattle.pcap_frames.specs.CaptureFile.{IsCaptureWrongAt, IsOpen, IsOpened}
use Rattle.pcap_frames.specs.declared.event.CaptureEvent.{CaptureEvent}
use Rattle.pcap_frames.specs.declared.event.CaptureEvent.TheVariants as events
use Rattle.pcap_frames.specs.declared.form.FileForm.{FileForm}
use Rattle.pcap_frames.specs.declared.stage.Stage.{Stage}
use Rattle.pcap_frames.specs.declared.stage.Stage.TheVariants as stages

-- What is read of the header; what comes next; the time of the last record; the offset behind what is whole, or of the next byte of the
-- header; whether the last call made a record whole; the bytes held, which are what has come of the file's head or of the next record, or
-- a whole record that came in parts; and the fault.
pub record Reading : Type 0 where
  pub header : HeaderReading
  pub stage : Stage
  pub stamp : TimeStamp
  pub start : ℕ
  pub whole : Bool
  pub held : List ℕ
  pub fault : Option RecordFault

-- what has come of the file's head, or of the next record
abbrev pub begun : Reading → List ℕ
begun reading = if reading.whole then [] else reading.held

-- the record that is whole, by the bytes that the last call took
abbrev pub held_record : Reading → List ℕ → Captured
held_record reading taken = record { stamp = reading.stamp; bytes = drop 16 (whole_bytes reading.held taken) }

-- it stands in these bytes, or in those held
abbrev pub IsRecordIn : Reading → List ℕ → Type 0
IsRecordIn reading taken = (form : FileForm) × IsCaptured form (held_record reading taken) (whole_bytes reading.held taken)

-- all bytes that the reader was given so far, and these records, are behind what it knows
pub record IsBeginning (reading : Reading) (taken : List ℕ) (records : List Captured) : Type 0 where
  pub started : reading.header.started ≡ false
  pub none : records ≡ []
  pub bytes : taken ≡ header_begun reading.header
  pub part : IsHeadPart taken
  pub nothing : begun reading ≡ []

pub record IsOpening (reading : Reading) (taken : List ℕ) (records : List Captured) : Type 0 where
  pub started : reading.header.started ≡ true
  pub none : records ≡ []
  pub so_far : IsOpened reading.header.head (begun reading) taken

pub record IsGoing (form : FileForm) (reading : Reading) (taken : List ℕ) (records : List Captured) : Type 0 where
  pub started : reading.header.started ≡ true
  pub so_far : IsOpen reading.header.head form records (begun reading) taken

abbrev pub StandsIn : Stage → Reading → List ℕ → List Captured → Type 0
StandsIn stages.Header reading taken records = IsBeginning reading taken records
StandsIn stages.FileHead reading taken records = IsOpening reading taken records
StandsIn (stages.Records form) reading taken records = IsGoing form reading taken records

pub record StandsSound (reading : Reading) (taken : List ℕ) (records : List Captured) : Type 0 where
  pub start : reading.start + length (begun reading) ≡ length taken
  pub staged : StandsIn reading.stage reading taken records

abbrev pub StandsWith : Option RecordFault → Reading → List ℕ → List Captured → Type 0
StandsWith None reading taken records = StandsSound reading taken records
StandsWith (Some fault) reading taken records = IsCaptureWrongAt records taken fault.offset

abbrev pub StandsFor : Reading → List ℕ → List Captured → Type 0
StandsFor reading taken records = StandsWith reading.fault reading taken records

-- no bytes were given
pub record IsFresh (reading : Reading) : Type 0 where
  pub header : IsFreshHeader reading.header
  pub stage : reading.stage ≡ stages.Header
  pub whole : reading.whole ≡ false
  pub start : reading.start ≡ 0
  pub held : reading.held ≡ []
  pub fault : reading.fault ≡ None

-- One call, by its event. All bytes of the piece were taken;
pub record IsMoreOfHeader (old : Reading) (piece : List ℕ) (new : Reading) : Type 0 where
  pub began : old.header.started ≡ false
  pub started : new.header.started ≡ false
  pub bytes : header_begun new.header ≡ header_begun old.header ++ piece
  pub part : IsHeadPart (header_begun old.header ++ piece)
  pub after : new ≡ record old { header = new.header; start = old.start + length piece; whole = false; held = [] }

pub record IsMoreOfFile (old : Reading) (piece : List ℕ) (new : Reading) : Type 0 where
  pub part : IsFilePart (begun old ++ piece)
  pub after : new ≡ record old { whole = false; held = begun old ++ piece }

pub record IsMoreOfRecord (form : FileForm) (old : Reading) (piece : List ℕ) (new : Reading) : Type 0 where
  pub part : IsRecordPart form (begun old ++ piece)
  pub after : new ≡ record old { whole = false; held = begun old ++ piece }

abbrev pub IsMoreIn : Stage → Reading → List ℕ → Reading → Type 0
IsMoreIn stages.Header old piece new = IsMoreOfHeader old piece new
IsMoreIn stages.FileHead old piece new = IsMoreOfFile old piece new
IsMoreIn (stages.Records form) old piece new = IsMoreOfRecord form old piece new

pub record IsMore (old : Reading) (piece : List ℕ) (count : ℕ) (new : Reading) : Type 0 where
  pub sound : old.fault ≡ None
  pub all : count ≡ length piece
  pub staged : IsMoreIn old.stage old piece new

-- or as many as the header has;
pub record IsHeadRead (old : Reading) (piece : List ℕ) (count : ℕ) (new : Reading) : Type 0 where
  pub sound : old.fault ≡ None
  pub few : count ≤ length piece
  pub stage : old.stage ≡ stages.Header
  pub began : old.header.started ≡ false
  pub started : new.header.started ≡ true
  pub says : IsHead new.header.head (header_begun old.header ++ take count piece)
  pub after : new ≡ record old { header = new.header; stage = stages.FileHead; start = old.start + count; whole = false; held = [] }

-- or as many as the head of the file has;
pub record IsFileRead (old : Reading) (piece : List ℕ) (count : ℕ) (new : Reading) : Type 0 where
  pub sound : old.fault ≡ None
  pub few : count ≤ length piece
  pub stage : old.stage ≡ stages.FileHead
  pub form : FileForm
  pub whole : IsFileHead form (begun old ++ take count piece)
  pub after : new ≡ record old {
    stage = stages.Records form;
    start = old.start + length (begun old ++ take count piece);
    whole = false;
    held = [];
  }

-- or as many as the record has.
pub record IsRecordRead (old : Reading) (piece : List ℕ) (count : ℕ) (new : Reading) : Type 0 where
  pub sound : old.fault ≡ None
  pub few : count ≤ length piece
  pub form : FileForm
  pub stage : old.stage ≡ stages.Records form
  pub whole : IsWholeRecord form (begun old ++ take count piece)
  pub after : new ≡ record old {
    stamp = (captured_in form (begun old ++ take count piece)).stamp;
    start = old.start + length (begun old ++ take count piece);
    whole = true;
    held = kept_of (begun old) (take count piece);
  }

abbrev pub IsNextReading : Reading → List ℕ → ℕ → CaptureEvent → Reading → Type 0
IsNextReading old piece count events.More new = IsMore old piece count new
IsNextReading old piece count events.Head new = IsHeadRead old piece count new
IsNextReading old piece count events.File new = IsFileRead old piece count new
IsNextReading old piece count events.Record new = IsRecordRead old piece count new

-- A fault stays. A new one is at the first field that is wrong.
abbrev pub IsWrongIn : Stage → Reading → List ℕ → ℕ → Type 0
IsWrongIn stages.Header old piece offset = (old.header.started ≡ false) × IsHeadWrongAt (header_begun old.header ++ piece) offset
IsWrongIn stages.FileHead old piece offset = (place : ℕ) × (IsFileWrongAt (begun old ++ piece) place × (offset ≡ old.start + place))
IsWrongIn (stages.Records form) old piece offset = (place : ℕ) × (IsRecordWrongAt form (begun old ++ piece) place × (offset ≡ old.start + place))

pub record IsNewFault (old : Reading) (piece : List ℕ) (offset : ℕ) (new : Reading) : Type 0 where
  pub whole : new.whole ≡ false
  pub fault : new.fault ≡ Some (record { offset = offset })
  pub staged : IsWrongIn old.stage old piece offset

abbrev pub IsFailed : Option RecordFault → Reading → List ℕ → ℕ → Reading → Type 0
IsFailed (Some fault) old piece offset new = (offset ≡ fault.offset) × (new ≡ old)
IsFailed None old piece offset new = IsNewFault old piece offset new

-- What the reader keeps true, by what comes next, with the room for bytes.
pub record IsHeaderKept (reading : Reading) : Type 0 where
  pub started : reading.header.started ≡ false
  pub sound : reading.header.fault ≡ None
  pub start : reading.start ≡ reading.header.start + length (header_begun reading.header)
  pub nothing : reading.held ≡ []
  pub idle : reading.whole ≡ false

pub record IsFileKept (reading : Reading) : Type 0 where
  pub started : reading.header.started ≡ true
  pub idle : reading.whole ≡ false
  pub part : IsFilePart reading.held

pub record IsRecordKept (form : FileForm) (reading : Reading) : Type 0 where
  pub started : reading.header.started ≡ true
  pub part : IsRecordPart form (begun reading)

abbrev pub IsKeptIn : Stage → Reading → Type 0
IsKeptIn stages.Header reading = IsHeaderKept reading
IsKeptIn stages.FileHead reading = IsFileKept reading
IsKeptIn (stages.Records form) reading = IsRecordKept form reading

pub record Keeps (reading : Reading) (room : ℕ) : Type 0 where
  pub held_fit : 262160 ≤ room
  pub idle : IsSome reading.fault → reading.whole ≡ false
  pub staged : reading.fault ≡ None → IsKeptIn reading.stage reading
  pub small : reading.fault ≡ None → reading.start + length (begun reading) < 2 ^ 63

-- The end of the bytes: the fault that stands, or the number of bytes where they end inside the header, the head of the file or a record.
abbrev pub IsShortIn : Stage → Reading → Type 0
IsShortIn stages.Header reading = Unit {0}
IsShortIn stages.FileHead reading = Unit {0}
IsShortIn (stages.Records form) reading = 0 < length (begun reading)

abbrev pub IsUnfinished : Option RecordFault → Reading → ℕ → Type 0
IsUnfinished (Some fault) reading offset = offset ≡ fault.offset
IsUnfinished None reading offset = (offset ≡ reading.start + length (begun reading)) × IsShortIn reading.stage reading

pub record IsAtEnd (reading : Reading) : Type 0 where
  pub sound : reading.fault ≡ None
  pub form : FileForm
  pub stage : reading.stage ≡ stages.Records form
  pub nothing : begun reading ≡ []

-- the records after a call that took these bytes
abbrev pub records_after : CaptureEvent → List Captured → Reading → List ℕ → List Captured
records_after events.More records new taken = records
records_after events.Head records new taken = records
records_after events.File records new taken = records
records_after events.Record records new taken = records ++ held_record new taken ∷ []
