-- A capture behind the header of a record: the header, the head of the file, then records, up to the end of the bytes.
use Rattle.std.specs.Prelude.{◌≡◌, ℕ, ◌+◌, ◌<◌, ◌⊎◌, List, [], ◌∷◌, ◌++◌, length}
use Rattle.replay_form.specs.Head.{IsHead}
use Rattle.replay_form.specs.HeadFields.{IsHeadPart, IsHeadWrongAt}
use Rattle.replay_form.specs.declared.record_head.RecordHead.{RecordHead}
use Rattle.pcap_frames.specs.CaptureFields.{Captured, IsCaptured, IsFileHead, IsFilePart, IsFileWrongAt, IsRecordPart, IsRecordWrongAt}
use Rattle.pcap_frames.specs.declared.form.FileForm.{FileForm}

-- the bytes are these records, and no more
abbrev pub AreCaptured : FileForm → List Captured → List ℕ → Type 0
AreCaptured form [] bytes = bytes ≡ []
AreCaptured form (captured ∷ records) bytes =
    (front : List ℕ) × ((back : List ℕ) × ((bytes ≡ front ++ back) × (IsCaptured form captured front × AreCaptured form records back)))

-- the bytes are a header that says this, then a rest
pub record IsHeaded (head : RecordHead) (rest bytes : List ℕ) : Type 0 where
  pub header : List ℕ
  pub whole : bytes ≡ header ++ rest
  pub says : IsHead head header

-- the same, and the rest is the head of a file of this form, then these records, then a rest
pub record IsCut (head : RecordHead) (form : FileForm) (records : List Captured) (rest bytes : List ℕ) : Type 0 where
  pub file : List ℕ
  pub body : List ℕ
  pub headed : IsHeaded head (file ++ (body ++ rest)) bytes
  pub opened : IsFileHead form file
  pub framed : AreCaptured form records body

-- the bytes are a header and a capture
abbrev pub IsCapture : RecordHead → FileForm → List Captured → List ℕ → Type 0
IsCapture head form records bytes = IsCut head form records [] bytes

-- the first field that is wrong begins at this offset: in the head of the file,
pub record IsWrongInFile (bytes : List ℕ) (offset : ℕ) : Type 0 where
  pub head : RecordHead
  pub rest : List ℕ
  pub headed : IsHeaded head rest bytes
  pub place : ℕ
  pub file : IsFileWrongAt rest place
  pub told : offset + length rest ≡ length bytes + place

-- or in a record, behind these;
pub record IsWrongBehind (records : List Captured) (bytes : List ℕ) (offset : ℕ) : Type 0 where
  pub head : RecordHead
  pub form : FileForm
  pub rest : List ℕ
  pub cut : IsCut head form records rest bytes
  pub place : ℕ
  pub frame : IsRecordWrongAt form rest place
  pub told : offset + length rest ≡ length bytes + place

-- or in the header
abbrev pub IsCaptureWrongAt : List Captured → List ℕ → ℕ → Type 0
IsCaptureWrongAt records bytes offset =
    ((records ≡ []) × (IsHeadWrongAt bytes offset ⊎ IsWrongInFile bytes offset)) ⊎ IsWrongBehind records bytes offset

-- the bytes end inside the head of the file, or in front of it, and no field that is there is wrong
pub record IsOpened (head : RecordHead) (rest bytes : List ℕ) : Type 0 where
  pub headed : IsHeaded head rest bytes
  pub part : IsFilePart rest

-- the bytes end inside a record, or behind one, and no field that is there is wrong
pub record IsOpen (head : RecordHead) (form : FileForm) (records : List Captured) (rest bytes : List ℕ) : Type 0 where
  pub cut : IsCut head form records rest bytes
  pub part : IsRecordPart form rest

-- the bytes end inside a record, and no field that is there is wrong
abbrev pub EndsInRecord : List ℕ → Type 0
EndsInRecord bytes =
    (head : RecordHead) × ((form : FileForm) × ((records : List Captured) × ((rest : List ℕ) × ((0 < length rest) × IsOpen head form records rest bytes))))

-- the bytes end inside the header, the head of the file or a record, and no field that is there is wrong
abbrev pub EndsInside : List ℕ → Type 0
EndsInside bytes = IsHeadPart bytes ⊎ (((head : RecordHead) × ((rest : List ℕ) × IsOpened head rest bytes)) ⊎ EndsInRecord bytes)
