-- What a run did with its source and its sink, and the status that bytes give.
use Rattle.std.specs.Prelude.{◌≡◌, ℕ, ◌+◌, ◌≤◌, ◌⊎◌, true, List, [], length, take, Option}
use Rattle.std.specs.Io.KnownBytes.{Consumes, IsAtEnd, Appends}
use Rattle.difi_io.specs.Faults.{Rose}
use Rattle.record_run.specs.declared.status.Status.{Status}
use Rattle.record_run.specs.declared.status.Status.TheVariants.{Done, Usage, ReadFault, WriteFault, Memory, BadRecord, TooLong}
use Rattle.replay_form.specs.Grammar.{Grammar, IsBad, IsLonger, IsWhole}
use Rattle.record_run.specs.Tells.{Tells}

-- what a line asks for: how many bytes are judged at most, what they are, and what is told of them
pub record Behaviour (H F : Type 0) : Type 1 where
  pub most : ℕ
  pub grammar : Grammar H F
  pub tells : Tells H F

-- the bytes that the source has left and that the sink holds, where they tell it, and the counts of their faults, before and now
pub record Moves : Type 0 where
  pub left : Option (List ℕ)
  pub left_now : Option (List ℕ)
  pub held : Option (List ℕ)
  pub held_now : Option (List ℕ)
  pub reads : ℕ
  pub reads_now : ℕ
  pub writes : ℕ
  pub writes_now : ℕ

-- ---- the status that the bytes give where no read or write fails

abbrev pub IsVerdict : {H F : Type 0} → Grammar H F → ℕ → List ℕ → Status → Type 0
IsVerdict grammar most bytes Done = IsWhole grammar most bytes
IsVerdict grammar most bytes (BadRecord offset) = IsBad grammar most bytes offset
IsVerdict grammar most bytes TooLong = IsLonger grammar most bytes
IsVerdict grammar most bytes Usage = ⊥
IsVerdict grammar most bytes ReadFault = ⊥
IsVerdict grammar most bytes WriteFault = ⊥
IsVerdict grammar most bytes Memory = ⊥

-- ---- what is told of bytes

-- the text of the frames that stand whole in the bytes
abbrev pub IsPart : {H F : Type 0} → Behaviour H F → List ℕ → List ℕ → Type 0
IsPart {H} {F} behaviour bytes text =
    (behaviour.grammar.none bytes × (text ≡ []))
    ⊎ ((head : H) × ((frames : List F) × (behaviour.grammar.has head frames bytes × behaviour.tells.part head frames text)))

-- the bytes are a header and frames, and this is their text
abbrev pub IsOutput : {H F : Type 0} → Behaviour H F → List ℕ → List ℕ → Type 0
IsOutput {H} {F} behaviour bytes text =
    (head : H) × ((frames : List F) × (behaviour.grammar.whole head frames bytes × behaviour.tells.out head frames text))

-- the text of the bytes that are judged
abbrev pub IsJudgedPart : {H F : Type 0} → Behaviour H F → List ℕ → List ℕ → Type 0
IsJudgedPart behaviour bytes text = IsPart behaviour (take behaviour.most bytes) text

-- ---- the cause of each status

-- The source told its end, and the whole text was written;
pub record IsDone {H F : Type 0} (behaviour : Behaviour H F) (bytes text : List ℕ) (moves : Moves) : Type 0 where
  pub at_end : IsAtEnd moves.left_now
  pub within : length bytes ≤ behaviour.most
  pub output : IsOutput behaviour bytes text

-- or a read failed, and no write, behind bytes in which nothing is wrong;
pub record IsReadFault {H F : Type 0} (behaviour : Behaviour H F) (bytes text : List ℕ) (moves : Moves) : Type 0 where
  pub rose : Rose moves.reads moves.reads_now
  pub kept : moves.writes_now ≡ moves.writes
  pub within : length bytes ≤ behaviour.most
  pub sound : behaviour.grammar.sound bytes
  pub part : IsPart behaviour bytes text

-- or a write failed, behind a front of the text of the bytes, or of the whole text where the source told its end;
abbrev pub IsTextSoFar : {H F : Type 0} → Behaviour H F → List ℕ → List ℕ → Option (List ℕ) → Type 0
IsTextSoFar behaviour bytes text left_now =
    IsJudgedPart behaviour bytes text ⊎ ((length bytes ≤ behaviour.most) × (IsAtEnd left_now × IsOutput behaviour bytes text))

pub record IsWriteFault {H F : Type 0} (behaviour : Behaviour H F) (bytes text : List ℕ) (moves : Moves) : Type 0 where
  pub rose : Rose moves.writes moves.writes_now
  pub all : List ℕ
  pub so_far : IsTextSoFar behaviour bytes all moves.left_now
  pub number : ℕ
  pub front : text ≡ take number all

-- or memory ran out, before anything was taken, or with the header alone where the teller takes some there, and nothing was written;
pub record IsMemory {H F : Type 0} (behaviour : Behaviour H F) (bytes text : List ℕ) (moves : Moves) : Type 0 where
  pub reads : moves.reads_now ≡ moves.reads
  pub writes : moves.writes_now ≡ moves.writes
  pub taken : (bytes ≡ []) ⊎ ((behaviour.tells.wants ≡ true) × behaviour.grammar.header bytes)
  pub none : text ≡ []

-- or a field is wrong, or the source told its end inside the header or a frame;
abbrev pub IsBadSoFar : {H F : Type 0} → Behaviour H F → List ℕ → ℕ → Option (List ℕ) → Type 0
IsBadSoFar behaviour bytes offset left_now =
    behaviour.grammar.wrong (take behaviour.most bytes) offset
    ⊎ ((length bytes ≤ behaviour.most) × (IsAtEnd left_now × (behaviour.grammar.inside bytes × (offset ≡ length bytes))))

pub record IsBadRecord {H F : Type 0} (behaviour : Behaviour H F) (offset : ℕ) (bytes text : List ℕ) (moves : Moves) : Type 0 where
  pub bad : IsBadSoFar behaviour bytes offset moves.left_now
  pub part : IsJudgedPart behaviour bytes text

-- or the bytes are too many.
pub record IsTooLong {H F : Type 0} (behaviour : Behaviour H F) (bytes text : List ℕ) (moves : Moves) : Type 0 where
  pub longer : IsLonger behaviour.grammar behaviour.most bytes
  pub part : IsJudgedPart behaviour bytes text

abbrev pub IsCause : {H F : Type 0} → Status → Behaviour H F → List ℕ → List ℕ → Moves → Type 0
IsCause Done behaviour bytes text moves = IsDone behaviour bytes text moves
IsCause ReadFault behaviour bytes text moves = IsReadFault behaviour bytes text moves
IsCause WriteFault behaviour bytes text moves = IsWriteFault behaviour bytes text moves
IsCause Memory behaviour bytes text moves = IsMemory behaviour bytes text moves
IsCause (BadRecord offset) behaviour bytes text moves = IsBadRecord behaviour offset bytes text moves
IsCause TooLong behaviour bytes text moves = IsTooLong behaviour bytes text moves
IsCause Usage behaviour bytes text moves = ⊥

-- these bytes were taken, at most one more than are judged, and this text was written, with the cause of the status
pub record IsOutcome {H F : Type 0} (status : Status) (behaviour : Behaviour H F) (moves : Moves) : Type 0 where
  pub bytes : List ℕ
  pub taken : Consumes moves.left moves.left_now bytes
  pub few : length bytes ≤ behaviour.most + 1
  pub text : List ℕ
  pub written : Appends moves.held moves.held_now text
  pub cause : IsCause status behaviour bytes text moves
