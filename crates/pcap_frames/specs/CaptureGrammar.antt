-- A capture behind the header of a record as what an intake reads.
use Rattle.std.specs.Prelude.{◌≡◌, ◌⊎◌, ℕ, ◌+◌, ◌-◌, true, if◌then◌else◌, List, [], length, drop, Some, None}
use Rattle.replay_form.specs.Grammar.{Grammar, Reads}
use Rattle.replay_form.specs.Head.{IsHead}
use Rattle.replay_form.specs.HeadFields.{IsHeadPart}
use Rattle.replay_form.specs.Standing.{HasNoHead}
use Rattle.replay_form.specs.declared.record_head.RecordHead.{RecordHead}
use Rattle.pcap_frames.specs.CaptureFields.{Captured, IsFilePart, IsFileWrongAt, IsRecordPart, IsRecordWrongAt}
use Rattle.pcap_frames.specs.CaptureFile.{IsHeaded, IsCut, IsCapture, IsCaptureWrongAt, IsOpened, IsOpen, EndsInside}
use Rattle.pcap_frames.specs.Reading.{Reading, IsRecordIn, StandsFor, begun, held_record}
use Rattle.pcap_frames.specs.declared.form.FileForm.{FileForm}
use Rattle.pcap_frames.specs.declared.stage.Stage.{Stage}
use Rattle.pcap_frames.specs.declared.stage.Stage.TheVariants as stages

-- the header stands whole, and behind it the head of the file ends early, or a field of it is wrong
pub record HasNoFile (head : RecordHead) (bytes : List ℕ) : Type 0 where
  pub rest : List ℕ
  pub headed : IsHeaded head rest bytes
  pub behind : IsFilePart rest ⊎ ((place : ℕ) × IsFileWrongAt rest place)

-- these records stand whole behind the head of the file, and no others in front of a wrong field
pub record HasFile (head : RecordHead) (records : List Captured) (bytes : List ℕ) : Type 0 where
  pub form : FileForm
  pub rest : List ℕ
  pub cut : IsCut head form records rest bytes
  pub behind : IsRecordPart form rest ⊎ ((place : ℕ) × IsRecordWrongAt form rest place)

-- this header and these records stand whole in the bytes, and no others in front of a wrong field
abbrev pub HasRecords : RecordHead → List Captured → List ℕ → Type 0
HasRecords head records bytes = ((records ≡ []) × HasNoFile head bytes) ⊎ HasFile head records bytes

-- no field of the bytes is wrong, as far as they go
abbrev pub HasNoFault : List ℕ → Type 0
HasNoFault bytes =
    IsHeadPart bytes
    ⊎ (((head : RecordHead) × ((rest : List ℕ) × IsOpened head rest bytes))
    ⊎ ((head : RecordHead) × ((form : FileForm) × ((records : List Captured) × ((rest : List ℕ) × IsOpen head form records rest bytes)))))

-- a field is wrong, and the first such begins at this offset
abbrev pub HasFaultAt : List ℕ → ℕ → Type 0
HasFaultAt bytes offset = (records : List Captured) × IsCaptureWrongAt records bytes offset

-- the bytes are this header, the head of a file and these records, and no more
abbrev pub IsWholeCapture : RecordHead → List Captured → List ℕ → Type 0
IsWholeCapture head records bytes = (form : FileForm) × IsCapture head form records bytes

abbrev pub capture_grammar : Grammar RecordHead Captured
capture_grammar = record {
  wrong = HasFaultAt;
  sound = HasNoFault;
  inside = EndsInside;
  header = λ bytes. (head : RecordHead) × IsHead head bytes;
  none = HasNoHead;
  has = HasRecords;
  whole = IsWholeCapture;
  size = λ captured. length captured.bytes;
}

-- how many of so many bytes stand in the header and the records that are whole, without the 24 of the file's head
abbrev pub whole_in : Stage → ℕ → ℕ
whole_in stages.Header start = 0
whole_in stages.FileHead start = start
whole_in (stages.Records form) start = start - 24

-- what a reader of a capture knows, while no field is wrong; of the bytes that its last call took, so many stand in front of the record
abbrev pub capture_reads : ℕ → Reading → Reads RecordHead Captured
capture_reads before reading = record {
  given = reading.start + length (begun reading);
  whole = whole_in reading.stage reading.start;
  head = if reading.header.started then Some reading.header.head else None;
  frame = λ taken captured. (reading.whole ≡ true) × ((captured ≡ held_record reading (drop before taken)) × IsRecordIn reading (drop before taken));
  stands = λ taken records. (reading.fault ≡ None) × StandsFor reading taken records;
}
