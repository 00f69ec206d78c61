-- What a teller tells of frames.
use Rattle.std.specs.Prelude.{◌≡◌, ◌≤◌, ℕ, ◌+◌, Bool, true, false, List, [], ◌++◌}

-- What is told from now on, behind a header that says this: the text of frames that are yet to come, and of these with the end
-- behind them. The count is what a teller counts in frames: no more than the frames that were told of, and of each the bytes that may
-- be counted. What is owed is so much; whether its beginning takes memory; whether the header came; and whether the end came.
pub record Tells (H F : Type 0) : Type 1 where
  pub part : H → List F → List ℕ → Type 0
  pub out : H → List F → List ℕ → Type 0
  pub count : ℕ
  pub owed : ℕ
  pub wants : Bool
  pub started : Bool
  pub ended : Bool

-- whatever the new one tells from now on, the old one told with these frames and this text in front
pub record GoesOn {H F : Type 0} (head : H) (frames : List F) (text : List ℕ) (old new : Tells H F) : Type 0 where
  pub part : (later : List F) (more : List ℕ) → new.part head later more → old.part head (frames ++ later) (text ++ more)
  pub out : (later : List F) (more : List ℕ) → new.out head later more → old.out head (frames ++ later) (text ++ more)

-- the count, what it wants and whether the end came are as before
pub record KeepsCount {H F : Type 0} (old new : Tells H F) : Type 0 where
  pub count : new.count ≡ old.count
  pub wants : new.wants ≡ old.wants
  pub ended : new.ended ≡ old.ended

-- one more frame was told of, of which so many bytes may be counted
pub record CountsFrame {H F : Type 0} (size : ℕ) (old new : Tells H F) : Type 0 where
  pub count : new.count ≤ old.count + 1 + size
  pub wants : new.wants ≡ old.wants
  pub ended : new.ended ≡ old.ended

-- a text was put behind what is to be written, and these frames were told with it
pub record Puts {H F : Type 0} (head : H) (frames : List F) (waiting waiting' : List ℕ) (old new : Tells H F) : Type 0 where
  pub text : List ℕ
  pub put : waiting' ≡ waiting ++ text
  pub goes : GoesOn head frames text old new

-- the end was told: what is told behind it is the rest of what is told with it
pub record PutsEnd {H F : Type 0} (head : H) (waiting waiting' : List ℕ) (old new : Tells H F) : Type 0 where
  pub text : List ℕ
  pub put : waiting' ≡ waiting ++ text
  pub out : (more : List ℕ) → new.out head [] more → old.out head [] (text ++ more)
  pub ended : new.ended ≡ true

-- the header came and nothing is owed: of no more frames nothing more is told, and behind the end nothing
pub record IsSettled {H F : Type 0} (tells : Tells H F) : Type 0 where
  pub started : tells.started ≡ true
  pub owed : tells.owed ≡ 0
  pub part : (head : H) → tells.part head [] []
  pub out : tells.ended ≡ true → (head : H) → tells.out head [] []

-- no frame was told of, and the end has not come
pub record HasBegun {H F : Type 0} (tells : Tells H F) : Type 0 where
  pub count : tells.count ≡ 0
  pub open_ended : tells.ended ≡ false
