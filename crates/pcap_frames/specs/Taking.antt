-- What a piece makes of a file's head or a record that has begun.
use Rattle.std.specs.Prelude.{◌≡◌, ℕ, ◌<◌, ◌≤◌, List, ◌++◌, length, take, Option, Some, None}
use Rattle.replay_form.specs.Reading.{kept_of}
use Rattle.pcap_frames.specs.CaptureFields.{AreRecordFields, IsFileHead, IsFilePart, IsRecordPart, IsWholeRecord, record_size}
use Rattle.pcap_frames.specs.declared.form.FileForm.{FileForm}
use Rattle.pcap_frames.specs.declared.take.FileTaken.{FileTaken}
use Rattle.pcap_frames.specs.declared.take.FileTaken.TheVariants as files
use Rattle.pcap_frames.specs.declared.take.RecordTaken.{RecordTaken}
use Rattle.pcap_frames.specs.declared.take.RecordTaken.TheVariants as records

-- at most 24 bytes are the head of a file, or a part of it
abbrev pub IsFileJudged : Option FileForm → List ℕ → Type 0
IsFileJudged None bytes = IsFilePart bytes
IsFileJudged (Some form) bytes = IsFileHead form bytes

-- all of the piece was taken and the head of the file goes on, or a part and it is whole
pub record IsFilePartTaken (old piece new : List ℕ) : Type 0 where
  pub held : new ≡ old ++ piece
  pub goes_on : IsFilePart new

pub record IsFileWhole (old piece new : List ℕ) (form : FileForm) (count : ℕ) : Type 0 where
  pub few : count ≤ length piece
  pub some : 0 < count
  pub held : new ≡ old ++ take count piece
  pub whole : IsFileHead form new

abbrev pub IsFileTaken : List ℕ → List ℕ → FileTaken → List ℕ → Type 0
IsFileTaken old piece files.Part new = IsFilePartTaken old piece new
IsFileTaken old piece (files.Whole form count) new = IsFileWhole old piece new form count

-- the part of a record in front of the captured bytes is there and right
pub record IsRecordBegun (form : FileForm) (bytes : List ℕ) : Type 0 where
  pub there : 16 ≤ length bytes
  pub within : length bytes ≤ record_size form bytes
  pub right : AreRecordFields form 16 bytes

-- the same of a record, whose bytes are moved behind those held
pub record IsRecordPartTaken (form : FileForm) (old piece new : List ℕ) : Type 0 where
  pub held : new ≡ old ++ piece
  pub goes_on : IsRecordPart form new

pub record IsRecordWhole (form : FileForm) (old piece new : List ℕ) (count : ℕ) : Type 0 where
  pub few : count ≤ length piece
  pub held : new ≡ old ++ take count piece
  pub whole : IsWholeRecord form new

abbrev pub IsRecordMoved : FileForm → List ℕ → List ℕ → RecordTaken → List ℕ → Type 0
IsRecordMoved form old piece records.Part new = IsRecordPartTaken form old piece new
IsRecordMoved form old piece (records.Whole count) new = IsRecordWhole form old piece new count

-- the same, but that a record that stands in the piece alone stays there
pub record IsRecordFound (form : FileForm) (old piece new : List ℕ) (count : ℕ) : Type 0 where
  pub few : count ≤ length piece
  pub held : new ≡ kept_of old (take count piece)
  pub whole : IsWholeRecord form (old ++ take count piece)

abbrev pub IsRecordTaken : FileForm → List ℕ → List ℕ → RecordTaken → List ℕ → Type 0
IsRecordTaken form old piece records.Part new = IsRecordPartTaken form old piece new
IsRecordTaken form old piece (records.Whole count) new = IsRecordFound form old piece new count

-- what was not whole before takes a byte to be whole
abbrev pub TakesSome : RecordTaken → Type 0
TakesSome records.Part = Unit {0}
TakesSome (records.Whole count) = 0 < count
