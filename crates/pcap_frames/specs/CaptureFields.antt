-- The head of a capture file and the records behind it, in the classic pcap form: the fields in the order of layout, and the rule of each.
use Rattle.std.specs.Prelude.{◌≡◌, ℕ, ◌+◌, ◌*◌, ◌^◌, ◌<◌, ◌≤◌, true, if◌then◌else◌, List, [], ◌∷◌, length, drop, get_or}
use Rattle.vrt_time.specs.Time.{TimeStamp, stamp_of}
use Rattle.pcap_frames.specs.Numbers.{number_in}
use Rattle.pcap_frames.specs.declared.form.FileForm.{FileForm}

-- ---- the head of the file

-- the magic number, as its four bytes have it
abbrev pub magic_of : FileForm → ℕ
magic_of form = if form.big then (if form.nanos then 0xA1B23C4D else 0xA1B2C3D4) else (if form.nanos then 0x4D3CB2A1 else 0xD4C3B2A1)

-- where the magic number, the version's two parts, the zone, the accuracy, the snap length and the link type begin, and where the last ends
abbrev pub file_place : ℕ → ℕ
file_place index = get_or (0 ∷ 4 ∷ 6 ∷ 8 ∷ 12 ∷ 16 ∷ 20 ∷ 24 ∷ []) index 24

-- of the fields that end in the first n bytes, each is right: a file of this form, version 2.4, with the link type of Ethernet
pub record AreFileFields (form : FileForm) (n : ℕ) (bytes : List ℕ) : Type 0 where
  pub magic : 4 ≤ n → number_in true 0 4 bytes ≡ magic_of form
  pub major : 6 ≤ n → number_in form.big 4 2 bytes ≡ 2
  pub minor : 8 ≤ n → number_in form.big 6 2 bytes ≡ 4
  pub link : 24 ≤ n → number_in form.big 20 4 bytes ≡ 1

-- the bytes are the head of a file of this form
pub record IsFileHead (form : FileForm) (bytes : List ℕ) : Type 0 where
  pub all : length bytes ≡ 24
  pub right : AreFileFields form 24 bytes

-- the bytes end inside the head of a file, or in front of it, and no field that is there is wrong
pub record IsFilePart (bytes : List ℕ) : Type 0 where
  pub short : length bytes < 24
  pub form : FileForm
  pub right : AreFileFields form (length bytes) bytes

-- the first field that is wrong begins at this offset
pub record IsFileWrongAt (bytes : List ℕ) (offset : ℕ) : Type 0 where
  pub index : ℕ
  pub among : index < 7
  pub place : offset ≡ file_place index
  pub form : FileForm
  pub before : AreFileFields form offset bytes
  pub there : file_place (index + 1) ≤ length bytes
  pub wrong : (other : FileForm) → ¬ AreFileFields other (file_place (index + 1)) bytes

-- ---- a record

-- the fraction of a second counts so many picoseconds, and is below a second
abbrev pub unit_of : FileForm → ℕ
unit_of form = if form.nanos then 10 ^ 3 else 10 ^ 6

abbrev pub fraction_limit : FileForm → ℕ
fraction_limit form = if form.nanos then 10 ^ 9 else 10 ^ 6

-- of the fields in front of the captured bytes that end in the first n bytes, each is right
pub record AreRecordFields (form : FileForm) (n : ℕ) (bytes : List ℕ) : Type 0 where
  pub fraction : 8 ≤ n → number_in form.big 4 4 bytes < fraction_limit form
  pub captured : 12 ≤ n → number_in form.big 8 4 bytes ≤ 262144

-- the bytes of a record: its head, and as many as were captured
abbrev pub record_size : FileForm → List ℕ → ℕ
record_size form bytes = 16 + number_in form.big 8 4 bytes

-- the bytes are a whole record, and no field is wrong
pub record IsWholeRecord (form : FileForm) (bytes : List ℕ) : Type 0 where
  pub there : 16 ≤ length bytes
  pub all : length bytes ≡ record_size form bytes
  pub right : AreRecordFields form 16 bytes

-- the bytes end inside a record, or in front of one, and no field that is there is wrong
pub record IsRecordPart (form : FileForm) (bytes : List ℕ) : Type 0 where
  pub short : length bytes < record_size form bytes
  pub right : AreRecordFields form (length bytes) bytes

-- the first field that is wrong begins at this offset: of seconds, fraction, captured length and original length, each of four bytes
pub record IsRecordWrongAt (form : FileForm) (bytes : List ℕ) (offset : ℕ) : Type 0 where
  pub index : ℕ
  pub among : index < 4
  pub place : offset ≡ 4 * index
  pub before : AreRecordFields form offset bytes
  pub there : offset + 4 ≤ length bytes
  pub wrong : ¬ AreRecordFields form (offset + 4) bytes

-- what was captured: when, and the bytes
pub record Captured : Type 0 where
  pub stamp : TimeStamp
  pub bytes : List ℕ

-- what the bytes of a record say
abbrev pub captured_in : FileForm → List ℕ → Captured
captured_in form bytes = record {
  stamp = stamp_of (number_in form.big 0 4 bytes) (number_in form.big 4 4 bytes * unit_of form);
  bytes = drop 16 bytes;
}

-- these bytes, and no others, are a record of it
pub record IsCaptured (form : FileForm) (captured : Captured) (bytes : List ℕ) : Type 0 where
  pub whole : IsWholeRecord form bytes
  pub told : captured ≡ captured_in form bytes
