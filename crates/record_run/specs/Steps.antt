-- How far a run has come: what was fed and told, and what of the text is on its way.
use Rattle.std.specs.Prelude.{◌<◌, ◌≢◌, IfOk, length, take, Result, Ok, Err, ◌≡◌, ℕ, ◌≤◌, Bool, true, false, List, [], ◌++◌, Option, Some, None}
use Rattle.record_run.specs.declared.status.Status.{Status}
use Rattle.record_run.specs.declared.status.Status.TheVariants.{Done, Usage, ReadFault, WriteFault, Memory, BadRecord, TooLong}
use Rattle.record_run.specs.declared.reading.Stop.{Stop}
use Rattle.record_run.specs.declared.reading.Stop.TheVariants as stops
use Rattle.record_run.specs.declared.outgoing.Outgoing.{Outgoing}
use Rattle.replay_form.specs.Grammar.{Grammar, Reads, IsStanding, HasWhole}
use Rattle.record_run.specs.Tells.{Tells, GoesOn, KeepsCount, IsSettled}
use Rattle.record_run.specs.Progress.{IsSent}

-- what waits to be written, whether a write failed, and what the sink holds and counts
pub record Way : Type 0 where
  pub failed : Bool
  pub waiting : List ℕ
  pub held : Option (List ℕ)
  pub faults : ℕ

abbrev pub way_of : Outgoing → Option (List ℕ) → ℕ → Way
way_of out held faults = record { failed = out.failed; waiting = out.text; held = held; faults = faults }

-- a text that was on its way is, with this one behind it
abbrev pub Sends : List ℕ → Way → Way → Type 0
Sends text old new =
    (start : Option (List ℕ)) (before : ℕ) (all : List ℕ) → IsSent old.failed start old.held before old.faults old.waiting all
    → IsSent new.failed start new.held before new.faults new.waiting (all ++ text)

-- something that was owed was put, and is on its way
pub record IsPut {H F : Type 0} (old new : Tells H F) (way way' : Way) : Type 0 where
  pub keeps : KeepsCount old new
  pub told : (head : H) → (text : List ℕ) × (GoesOn head [] text old new × Sends text way way')

-- between two calls the end has not come, no more was counted than the bytes that stand whole, and behind the header
-- nothing is owed
pub record IsReady {H F : Type 0} (reads : Reads H F) (tells : Tells H F) : Type 0 where
  pub open_ended : tells.ended ≡ false
  pub counted : tells.count ≤ reads.whole
  pub settled : reads.head ≢ None → IsSettled tells
  pub standing : IsStanding reads

-- with the header, once it is known, the frames were told in the text; before, nothing was
abbrev pub IsGoing : {H F : Type 0} → Option H → List F → List ℕ → Tells H F → Tells H F → Type 0
IsGoing {H} {F} None frames text old new = (frames ≡ []) × ((text ≡ []) × ((head : H) → GoesOn head [] [] old new))
IsGoing (Some head) frames text old new = GoesOn head frames text old new

-- a header that is known stays
abbrev pub HeadStays : {H : Type 0} → Option H → Option H → Type 0
HeadStays None new = Unit {0}
HeadStays (Some head) new = new ≡ Some head

-- The bytes were taken, and what they made whole was told;
pub record IsFed {H F : Type 0} (bytes : List ℕ) (reads reads' : Reads H F) (tells tells' : Tells H F) (way way' : Way) (taken : List ℕ) (frames : List F) : Type 0 where
  pub later : List F
  pub text : List ℕ
  pub stands : reads'.stands (taken ++ bytes) (frames ++ later)
  pub going : IsGoing reads'.head later text tells tells'
  pub sends : Sends text way way'

-- What stands whole in the bytes was told, where no more are to come;
pub record IsTold {H F : Type 0} (grammar : Grammar H F) (bytes : List ℕ) (reads : Reads H F) (tells tells' : Tells H F) (way way' : Way) (taken : List ℕ) (frames : List F) : Type 0 where
  pub later : List F
  pub text : List ℕ
  pub head : Option H
  pub stays : HeadStays reads.head head
  pub has : HasWhole grammar head (frames ++ later) (taken ++ bytes)
  pub going : IsGoing head later text tells tells'
  pub settled : head ≢ None → IsSettled tells'
  pub sends : Sends text way way'

-- since a field is wrong;
pub record IsStopped {H F : Type 0} (grammar : Grammar H F) (offset : ℕ) (bytes : List ℕ) (reads : Reads H F) (tells tells' : Tells H F) (way way' : Way) (taken : List ℕ) (frames : List F) : Type 0 where
  pub wrong : grammar.wrong (taken ++ bytes) offset
  pub told : IsTold grammar bytes reads tells tells' way way' taken frames

-- or memory ran out at the header.
pub record IsOut {H F : Type 0} (grammar : Grammar H F) (bytes : List ℕ) (tells : Tells H F) (way way' : Way) (taken : List ℕ) : Type 0 where
  pub wants : tells.wants ≡ true
  pub header : grammar.header (taken ++ bytes)
  pub same : way' ≡ way

-- what came of bytes that were fed
abbrev pub IsFedAs : {H F T : Type 0} → Grammar H F → Result T Stop → List ℕ → List ℕ → Reads H F → Reads H F → Tells H F → Tells H F → Way → Way → List ℕ → List F → Type 0
IsFedAs grammar (Ok done) front bytes reads reads' tells tells' way way' taken frames = IsFed front reads reads' tells tells' way way' taken frames
IsFedAs grammar (Err (stops.Wrong offset)) front bytes reads reads' tells tells' way way' taken frames =
    IsStopped grammar offset bytes reads tells tells' way way' taken frames
IsFedAs grammar (Err stops.Memory) front bytes reads reads' tells tells' way way' taken frames = IsOut grammar front tells way way' taken

-- the same of the front of the bytes that one call takes
pub record IsFedOnce {H F : Type 0} (grammar : Grammar H F) (result : Result ℕ Stop) (bytes : List ℕ) (reads reads' : Reads H F) (tells tells' : Tells H F) (way way' : Way) (taken : List ℕ) (frames : List F) : Type 0 where
  pub count : ℕ
  pub is : IfOk result (λ n. n ≡ count)
  pub some : 0 < count
  pub few : count ≤ length bytes
  pub fed : IsFedAs grammar result (take count bytes) bytes reads reads' tells tells' way way' taken frames

-- what came of bytes that were fed and whose text was written, or was cut off where a write failed
abbrev pub IsTakenAs : {H F : Type 0} → Grammar H F → Result Unit Status → List ℕ → Reads H F → Reads H F → Tells H F → Tells H F → Way → Way → List ℕ → List F → Type 0
IsTakenAs grammar (Err WriteFault) bytes reads reads' tells tells' way way' taken frames = IsTold grammar bytes reads tells tells' way way' taken frames
IsTakenAs grammar (Ok done) bytes reads reads' tells tells' way way' taken frames = IsFed bytes reads reads' tells tells' way way' taken frames
IsTakenAs grammar (Err (BadRecord offset)) bytes reads reads' tells tells' way way' taken frames = IsStopped grammar offset bytes reads tells tells' way way' taken frames
IsTakenAs grammar (Err Memory) bytes reads reads' tells tells' way way' taken frames = IsOut grammar bytes tells way way' taken
IsTakenAs grammar (Err Done) bytes reads reads' tells tells' way way' taken frames = ⊥
IsTakenAs grammar (Err Usage) bytes reads reads' tells tells' way way' taken frames = ⊥
IsTakenAs grammar (Err ReadFault) bytes reads reads' tells tells' way way' taken frames = ⊥
IsTakenAs grammar (Err TooLong) bytes reads reads' tells tells' way way' taken frames = ⊥

-- The end came behind bytes that are a header and frames, and the rest of their text is on its way;
pub record IsEnd {H F : Type 0} (grammar : Grammar H F) (reads : Reads H F) (tells : Tells H F) (way way' : Way) (taken : List ℕ) (frames : List F) : Type 0 where
  pub head : H
  pub known : reads.head ≡ Some head
  pub whole : grammar.whole head frames taken
  pub text : List ℕ
  pub out : tells.out head [] text
  pub sends : Sends text way way'

-- or they end inside one.
pub record IsEarly {H F : Type 0} (grammar : Grammar H F) (offset : ℕ) (way way' : Way) (taken : List ℕ) : Type 0 where
  pub inside : grammar.inside taken
  pub offset_is : offset ≡ length taken
  pub same : way' ≡ way

abbrev pub IsEndedAs : {H F : Type 0} → Grammar H F → Status → Reads H F → Tells H F → Way → Way → List ℕ → List F → Type 0
IsEndedAs grammar Done reads tells way way' taken frames = IsEnd grammar reads tells way way' taken frames
IsEndedAs grammar WriteFault reads tells way way' taken frames = IsEnd grammar reads tells way way' taken frames
IsEndedAs grammar (BadRecord offset) reads tells way way' taken frames = IsEarly grammar offset way way' taken
IsEndedAs grammar Usage reads tells way way' taken frames = ⊥
IsEndedAs grammar ReadFault reads tells way way' taken frames = ⊥
IsEndedAs grammar Memory reads tells way way' taken frames = ⊥
IsEndedAs grammar TooLong reads tells way way' taken frames = ⊥
