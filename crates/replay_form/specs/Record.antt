-- Records: a header, then frames, each with a moment not before that of the frame before, up to the end of the bytes.
use Rattle.std.specs.Prelude.{◌≡◌, ℕ, ◌+◌, ◌<◌, ◌⊎◌, List, [], ◌∷◌, ◌++◌, length}
use Rattle.vrt_time.specs.Time.{TimeStamp, stamp_of}
use Rattle.replay_form.specs.Head.{IsHead}
use Rattle.replay_form.specs.HeadFields.{IsHeadPart, IsHeadWrongAt}
use Rattle.replay_form.specs.FrameFields.{Frame, IsFrame, IsFramePart, IsFrameWrongAt}
use Rattle.replay_form.specs.declared.record_head.RecordHead.{RecordHead}

-- no moment is before this one
abbrev pub first_stamp : TimeStamp
first_stamp = stamp_of 0 0

-- the bytes are these frames, and no more, behind a frame of this stamp
abbrev pub AreFrames : TimeStamp → List Frame → List ℕ → Type 0
AreFrames last [] bytes = bytes ≡ []
AreFrames last (frame ∷ frames) bytes = (front : List ℕ) × ((back : List ℕ) × ((bytes ≡ front ++ back) × (IsFrame last frame front × AreFrames frame.stamp frames back)))

-- the stamp of the last of them
abbrev pub last_stamp : TimeStamp → List Frame → TimeStamp
last_stamp last [] = last
last_stamp last (frame ∷ frames) = last_stamp frame.stamp frames

-- the bytes are a header that says this, then these frames, then a rest
pub record IsCut (head : RecordHead) (frames : List Frame) (rest bytes : List ℕ) : Type 0 where
  pub header : List ℕ
  pub body : List ℕ
  pub whole : bytes ≡ header ++ (body ++ rest)
  pub says : IsHead head header
  pub framed : AreFrames first_stamp frames body

-- the bytes are a record
abbrev pub IsRecord : RecordHead → List Frame → List ℕ → Type 0
IsRecord head frames bytes = IsCut head frames [] bytes

-- the first field that is wrong, of the header or of the frames, is at this offset, behind these frames
pub record IsWrongBehind (frames : List Frame) (bytes : List ℕ) (offset : ℕ) : Type 0 where
  pub head : RecordHead
  pub rest : List ℕ
  pub cut : IsCut head frames rest bytes
  pub place : ℕ
  pub frame : IsFrameWrongAt (last_stamp first_stamp frames) rest place
  pub told : offset + length rest ≡ length bytes + place

abbrev pub IsRecordWrongAt : List Frame → List ℕ → ℕ → Type 0
IsRecordWrongAt frames bytes offset = ((frames ≡ []) × IsHeadWrongAt bytes offset) ⊎ IsWrongBehind frames bytes offset

-- the bytes end inside a frame, or behind one, and no field that is there is wrong
pub record IsOpen (head : RecordHead) (frames : List Frame) (rest bytes : List ℕ) : Type 0 where
  pub cut : IsCut head frames rest bytes
  pub part : IsFramePart (last_stamp first_stamp frames) rest

-- the bytes end inside the header or a frame, and no field that is there is wrong
abbrev pub EndsInside : List ℕ → Type 0
EndsInside bytes = IsHeadPart bytes ⊎ ((head : RecordHead) × ((frames : List Frame) × ((rest : List ℕ) × ((0 < length rest) × IsOpen head frames rest bytes))))
