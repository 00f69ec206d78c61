-- Whether a field of bytes is wrong, as far as they go.
use Rattle.std.specs.Prelude.{ℕ, ◌⊎◌, List}
use Rattle.replay_form.specs.HeadFields.{IsHeadPart}
use Rattle.replay_form.specs.FrameFields.{Frame}
use Rattle.replay_form.specs.Record.{IsRecordWrongAt, IsOpen}
use Rattle.replay_form.specs.declared.record_head.RecordHead.{RecordHead}

-- no field of the bytes is wrong, as far as they go
abbrev pub HasNoFault : List ℕ → Type 0
HasNoFault bytes = IsHeadPart bytes ⊎ ((head : RecordHead) × ((frames : List Frame) × ((rest : List ℕ) × IsOpen head frames rest bytes)))

-- a field is wrong, and the first such begins at this offset
abbrev pub HasFaultAt : List ℕ → ℕ → Type 0
HasFaultAt bytes offset = (frames : List Frame) × IsRecordWrongAt frames bytes offset
