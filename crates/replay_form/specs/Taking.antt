-- What a piece makes of a header or a frame that has begun.
use Rattle.std.specs.Prelude.{◌≡◌, ℕ, ◌<◌, ◌≤◌, List, ◌++◌, length, take}
use Rattle.vrt_time.specs.Time.{TimeStamp}
use Rattle.replay_form.specs.HeadFields.{IsHeadOpen, AreJudged, IsWholeHead, field_count, head_size}
use Rattle.replay_form.specs.FrameFields.{IsFramePart, IsWholeFrame, AreFrameRight, frame_size}
use Rattle.replay_form.specs.Reading.{kept_of}
use Rattle.replay_form.specs.declared.take.HeadTaken.{HeadTaken}
use Rattle.replay_form.specs.declared.take.HeadTaken.TheVariants as heads
use Rattle.replay_form.specs.declared.take.FrameTaken.{FrameTaken}
use Rattle.replay_form.specs.declared.take.FrameTaken.TheVariants as frames

-- the part of a header in front of its routes is there, and so many fields are judged
pub record IsHeadBegun (bytes : List ℕ) (judged : ℕ) : Type 0 where
  pub there : 332 ≤ length bytes
  pub within : length bytes ≤ head_size bytes
  pub fields : AreJudged bytes judged (field_count bytes)

-- all of the piece was taken and the header goes on, or a part and it is whole
pub record IsPartTaken (old piece new : List ℕ) (judged : ℕ) : Type 0 where
  pub held : new ≡ old ++ piece
  pub goes_on : IsHeadOpen new judged

pub record IsHeadWhole (old piece new : List ℕ) (count : ℕ) : Type 0 where
  pub few : count ≤ length piece
  pub held : new ≡ old ++ take count piece
  pub whole : IsWholeHead new

abbrev pub IsHeadTaken : List ℕ → List ℕ → HeadTaken → List ℕ → Type 0
IsHeadTaken old piece (heads.Part judged) new = IsPartTaken old piece new judged
IsHeadTaken old piece (heads.Whole count) new = IsHeadWhole old piece new count

-- the part of a frame in front of its datagram is there and right
pub record IsFrameBegun (last : TimeStamp) (bytes : List ℕ) : Type 0 where
  pub there : 20 ≤ length bytes
  pub within : length bytes ≤ frame_size bytes
  pub right : AreFrameRight last bytes 5

-- the same of a frame, whose bytes are moved behind those held
pub record IsFramePartTaken (last : TimeStamp) (old piece new : List ℕ) : Type 0 where
  pub held : new ≡ old ++ piece
  pub goes_on : IsFramePart last new

pub record IsFrameWhole (last : TimeStamp) (old piece new : List ℕ) (count : ℕ) : Type 0 where
  pub few : count ≤ length piece
  pub held : new ≡ old ++ take count piece
  pub whole : IsWholeFrame last new

abbrev pub IsFrameMoved : TimeStamp → List ℕ → List ℕ → FrameTaken → List ℕ → Type 0
IsFrameMoved last old piece frames.Part new = IsFramePartTaken last old piece new
IsFrameMoved last old piece (frames.Whole count) new = IsFrameWhole last old piece new count

-- the same, but that a frame that stands in the piece alone stays there
pub record IsFrameFound (last : TimeStamp) (old piece new : List ℕ) (count : ℕ) : Type 0 where
  pub few : count ≤ length piece
  pub held : new ≡ kept_of old (take count piece)
  pub whole : IsWholeFrame last (old ++ take count piece)

abbrev pub IsFrameTaken : TimeStamp → List ℕ → List ℕ → FrameTaken → List ℕ → Type 0
IsFrameTaken last old piece frames.Part new = IsFramePartTaken last old piece new
IsFrameTaken last old piece (frames.Whole count) new = IsFrameFound last old piece new count

-- what was not whole before takes a byte to be whole
abbrev pub TakesSome : HeadTaken → Type 0
TakesSome (heads.Part judged) = Unit {0}
TakesSome (heads.Whole count) = 0 < count

abbrev pub FrameTakesSome : FrameTaken → Type 0
FrameTakesSome frames.Part = Unit {0}
FrameTakesSome (frames.Whole count) = 0 < count
