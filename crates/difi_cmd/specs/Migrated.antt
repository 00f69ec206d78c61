-- What migrate writes of a record: its header in form 2, then its frames as they stand.
use Rattle.std.specs.Prelude.{◌≡◌, ◌⊎◌, ℕ, List, [], ◌∷◌, ◌++◌}
use Rattle.vrt_words.specs.Words.{AreBytes}
use Rattle.replay_form.specs.FrameFields.{Frame, IsFrame}
use Rattle.replay_form.specs.Head.{IsHead}
use Rattle.replay_form.specs.Record.{first_stamp, IsRecord}
use Rattle.replay_form.specs.SecondForm.{in_second_form}
use Rattle.replay_form.specs.Standing.{HasNoHead, HasFrames}
use Rattle.replay_form.specs.declared.record_head.RecordHead.{RecordHead}

-- these bytes are the frame
pub record IsFrameBytes (frame : Frame) (bytes : List ℕ) : Type 0 where
  pub fit : AreBytes bytes
  pub says : IsFrame first_stamp frame bytes

-- the bytes are these frames, one after another
abbrev pub AreFrameBytes : List Frame → List ℕ → Type 0
AreFrameBytes [] bytes = bytes ≡ []
AreFrameBytes (frame ∷ frames) bytes = (front : List ℕ) × ((back : List ℕ) × ((bytes ≡ front ++ back) × (IsFrameBytes frame front × AreFrameBytes frames back)))

-- the text is these bytes, then the frames
abbrev pub IsBeforeFrames : List ℕ → List Frame → List ℕ → Type 0
IsBeforeFrames front frames text = (body : List ℕ) × ((text ≡ front ++ body) × AreFrameBytes frames body)

-- the bytes are the header in form 2
pub record IsMigratedHead (head : RecordHead) (bytes : List ℕ) : Type 0 where
  pub fit : AreBytes bytes
  pub says : IsHead (in_second_form head) bytes

-- the text is the header in form 2, then the frames
abbrev pub IsMigrated : RecordHead → List Frame → List ℕ → Type 0
IsMigrated head frames text = (header : List ℕ) × (IsMigratedHead head header × IsBeforeFrames header frames text)

-- the bytes begin with a header that says this; the text has it in form 2, and behind it the same bytes
pub record ChangesForm (head : RecordHead) (bytes text : List ℕ) : Type 0 where
  pub old : List ℕ
  pub new : List ℕ
  pub body : List ℕ
  pub whole : bytes ≡ old ++ body
  pub says : IsHead head old
  pub migrated : IsMigratedHead head new
  pub text_is : text ≡ new ++ body

-- the bytes are a record, and this is its migrated text
abbrev pub IsMigratedOf : List ℕ → List ℕ → Type 0
IsMigratedOf bytes text = (head : RecordHead) × ((frames : List Frame) × (IsRecord head frames bytes × IsMigrated head frames text))

-- the same of the header and the frames that stand whole in the bytes
abbrev pub IsMigratedSoFar : List ℕ → List ℕ → Type 0
IsMigratedSoFar bytes text =
    (HasNoHead bytes × (text ≡ []))
    ⊎ ((head : RecordHead) × ((frames : List Frame) × (HasFrames head frames bytes × IsMigrated head frames text)))

-- the bytes are a record of form 2
abbrev pub IsOfSecondForm : List ℕ → Type 0
IsOfSecondForm bytes = (head : RecordHead) × ((frames : List Frame) × (AreBytes bytes × (IsRecord head frames bytes × (head.form ≡ 2))))
