-- What an intake reads: the bytes that make a header and frames, and those that are wrong at a place.
use Rattle.std.specs.Prelude.{◌<◌, ◌⊎◌, ◌≡◌, ℕ, ◌+◌, ◌≤◌, List, [], ◌∷◌, ◌++◌, length, take, Option, Some, None}
use Rattle.replay_form.specs.declared.event.Event.{Event}
use Rattle.replay_form.specs.declared.event.Event.TheVariants as events

-- a header says an H, and a frame is an F
pub record Grammar (H F : Type 0) : Type 1 where
  -- a field is wrong, and the first such begins at this offset
  pub wrong : List ℕ → ℕ → Type 0
  -- no field is wrong, as far as the bytes go
  pub sound : List ℕ → Type 0
  -- they end inside the header or a frame, and no field is wrong
  pub inside : List ℕ → Type 0
  -- they are a header, and no more
  pub header : List ℕ → Type 0
  -- no header stands whole in them
  pub none : List ℕ → Type 0
  -- this header and these frames stand whole in them, and no others in front of a wrong field
  pub has : H → List F → List ℕ → Type 0
  -- they are this header and these frames, and no more
  pub whole : H → List F → List ℕ → Type 0
  -- how many bytes of a frame may be counted: fewer than it has
  pub size : F → ℕ

-- what stands whole in the bytes, of which the header may not be there yet
abbrev pub HasWhole : {H F : Type 0} → Grammar H F → Option H → List F → List ℕ → Type 0
HasWhole grammar None frames bytes = (frames ≡ []) × grammar.none bytes
HasWhole grammar (Some head) frames bytes = grammar.has head frames bytes

-- What an intake knows: how many bytes it was given, how many of them stand in the header and the frames that are whole, what the
-- header says, once it is whole, and, with the bytes that the last call took, which frame it made whole. It stands for bytes in which
-- no field is wrong, and for the frames that stand whole in them.
pub record Reads (H F : Type 0) : Type 1 where
  pub given : ℕ
  pub whole : ℕ
  pub head : Option H
  pub frame : List ℕ → F → Type 0
  pub stands : List ℕ → List F → Type 0

-- no field is wrong in the bytes given
abbrev pub IsStanding : {H F : Type 0} → Reads H F → Type 0
IsStanding {H} {F} reads = (taken : List ℕ) × ((frames : List F) × reads.stands taken frames)

-- One call, by its event. All bytes of the piece were taken, and nothing became whole;
pub record IsMore {H F : Type 0} (piece : List ℕ) (count : ℕ) (old new : Reads H F) : Type 0 where
  pub all : count ≡ length piece
  pub whole : new.whole ≡ old.whole
  pub head : new.head ≡ old.head
  pub stands : (taken : List ℕ) (frames : List F) → old.stands taken frames → new.stands (taken ++ piece) frames

-- or the header did, with the last of so many bytes;
pub record IsHeadRead {H F : Type 0} (grammar : Grammar H F) (piece : List ℕ) (count : ℕ) (old new : Reads H F) : Type 0 where
  pub first : old.head ≡ None
  pub whole : old.whole ≤ new.whole
  pub says : H
  pub head : new.head ≡ Some says
  pub header : (taken : List ℕ) (frames : List F) → old.stands taken frames → grammar.header (taken ++ take count piece)
  pub stands : (taken : List ℕ) (frames : List F) → old.stands taken frames → new.stands (taken ++ take count piece) frames

-- or a frame did.
pub record IsFrameRead {H F : Type 0} (grammar : Grammar H F) (piece : List ℕ) (count : ℕ) (old new : Reads H F) : Type 0 where
  pub says : H
  pub later : old.head ≡ Some says
  pub head : new.head ≡ Some says
  pub is : F
  pub frame : new.frame (take count piece) is
  pub whole : old.whole + grammar.size is < new.whole
  pub stands : (taken : List ℕ) (frames : List F) → old.stands taken frames → new.stands (taken ++ take count piece) (frames ++ is ∷ [])

abbrev pub IsIntake : {H F : Type 0} → Grammar H F → Event → List ℕ → ℕ → Reads H F → Reads H F → Type 0
IsIntake grammar events.More piece count old new = IsMore piece count old new
IsIntake grammar events.Head piece count old new = IsHeadRead grammar piece count old new
IsIntake grammar events.Frame piece count old new = IsFrameRead grammar piece count old new

-- so many of the bytes were taken, and no more than there are
pub record TakesFront {H F : Type 0} (piece : List ℕ) (count : ℕ) (old new : Reads H F) : Type 0 where
  pub few : count ≤ length piece
  pub given : new.given ≡ old.given + count

-- the first field that is wrong begins at this offset, and what stands whole in front of it are the header and frames so far
pub record IsWrong {H F : Type 0} (grammar : Grammar H F) (piece : List ℕ) (offset : ℕ) (old : Reads H F) : Type 0 where
  pub wrong : (taken : List ℕ) (frames : List F) → old.stands taken frames → grammar.wrong (taken ++ piece) offset
  pub has : (taken : List ℕ) (frames : List F) → old.stands taken frames → HasWhole grammar old.head frames (taken ++ piece)

-- nothing was given
pub record IsFresh {H F : Type 0} (reads : Reads H F) : Type 0 where
  pub given : reads.given ≡ 0
  pub head : reads.head ≡ None
  pub stands : reads.stands [] []

-- what is wrong stays wrong
pub record IsLawful {H F : Type 0} (grammar : Grammar H F) : Type 0 where
  pub stays : (bytes more : List ℕ) (offset : ℕ) → grammar.wrong bytes offset → grammar.wrong (bytes ++ more) offset

-- no field is wrong so far, these frames stand whole, no more bytes stand whole than were given, and with the same bytes one frame
-- was made whole
pub record AreReads {H F : Type 0} (grammar : Grammar H F) (reads : Reads H F) : Type 0 where
  pub sound : (taken : List ℕ) (frames : List F) → reads.stands taken frames → grammar.sound taken
  pub has : (taken : List ℕ) (frames : List F) → reads.stands taken frames → HasWhole grammar reads.head frames taken
  pub within : reads.whole ≤ reads.given
  pub one : (taken : List ℕ) (frame other : F) → reads.frame taken frame → reads.frame taken other → frame ≡ other

-- ---- what bytes are of which the first ones alone are judged

-- Of the bytes the first `most` are judged. A field of these is wrong; or the bytes end inside the header or a frame
abbrev pub IsBad : {H F : Type 0} → Grammar H F → ℕ → List ℕ → ℕ → Type 0
IsBad grammar most bytes offset =
    grammar.wrong (take most bytes) offset ⊎ ((length bytes ≤ most) × (grammar.inside bytes × (offset ≡ length bytes)))

-- or there are more
pub record IsLonger {H F : Type 0} (grammar : Grammar H F) (most : ℕ) (bytes : List ℕ) : Type 0 where
  pub more : most < length bytes
  pub sound : grammar.sound (take most bytes)

-- or they are a header and frames
pub record IsWhole {H F : Type 0} (grammar : Grammar H F) (most : ℕ) (bytes : List ℕ) : Type 0 where
  pub within : length bytes ≤ most
  pub whole : (head : H) × ((frames : List F) × grammar.whole head frames bytes)
