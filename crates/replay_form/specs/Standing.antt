-- What stands whole in bytes, as far as they go.
use Rattle.std.specs.Prelude.{ℕ, ◌⊎◌, List}
use Rattle.replay_form.specs.HeadFields.{IsHeadPart, IsHeadWrongAt}
use Rattle.replay_form.specs.FrameFields.{Frame, IsFramePart, IsFrameWrongAt}
use Rattle.replay_form.specs.Record.{first_stamp, last_stamp, IsCut}
use Rattle.replay_form.specs.declared.record_head.RecordHead.{RecordHead}

-- no header stands whole in the bytes: they end inside it, or a field of it is wrong
abbrev pub HasNoHead : List ℕ → Type 0
HasNoHead bytes = IsHeadPart bytes ⊎ ((offset : ℕ) × IsHeadWrongAt bytes offset)

-- behind the last whole frame the bytes end, or a field of the next one is wrong
abbrev pub IsLeftOver : List Frame → List ℕ → Type 0
IsLeftOver frames rest =
    IsFramePart (last_stamp first_stamp frames) rest ⊎ ((place : ℕ) × IsFrameWrongAt (last_stamp first_stamp frames) rest place)

-- these frames stand whole in the bytes, and no others in front of a wrong field
pub record HasFrames (head : RecordHead) (frames : List Frame) (bytes : List ℕ) : Type 0 where
  pub rest : List ℕ
  pub cut : IsCut head frames rest bytes
  pub behind : IsLeftOver frames rest
