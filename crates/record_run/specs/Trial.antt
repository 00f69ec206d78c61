-- What the trial teller tells: a line and a second one for each frame, with its number, and a last line.
use Rattle.std.specs.Prelude.{◌≡◌, ℕ, ◌+◌, Bool, true, false, List, [], ◌∷◌, ◌++◌, codes}
use Rattle.std.specs.Fmt.{decimal}
use Rattle.record_run.specs.Tells.{Tells}

-- how many frames were told of; whether a line is owed, whether the end came, and whether memory is taken at the header
pub record Trial : Type 0 where
  pub told : ℕ
  pub owes : Bool
  pub ended : Bool
  pub wants : Bool

abbrev pub frame_line : ℕ → List ℕ
frame_line number = codes "frame " ++ decimal number ++ codes "\n"

abbrev pub second_line : List ℕ
second_line = codes "  was told\n"

abbrev pub last_line : ℕ → List ℕ
last_line number = codes "frames " ++ decimal number ++ codes "\n"

-- the line that is owed: the second one of a frame, or the last one where the end came
abbrev pub owed_line : Bool → Bool → ℕ → List ℕ
owed_line false ended told = []
owed_line true false told = second_line
owed_line true true told = last_line told

-- the lines of frames that are yet to come
abbrev pub frame_lines : {F : Type 0} → ℕ → List F → List ℕ
frame_lines told [] = []
frame_lines told (frame ∷ frames) = frame_line (told + 1) ++ (second_line ++ frame_lines (told + 1) frames)

-- the same with the last line, where the end is yet to come
abbrev pub all_lines : {F : Type 0} → Bool → ℕ → List F → List ℕ
all_lines true told frames = []
all_lines false told [] = last_line told
all_lines false told (frame ∷ frames) = frame_line (told + 1) ++ (second_line ++ all_lines false (told + 1) frames)

abbrev pub number_owed : Bool → ℕ
number_owed false = 0
number_owed true = 1

abbrev pub trial_tells : {H F : Type 0} → Trial → Tells H F
trial_tells trial = record {
  part = λ head frames text. text ≡ owed_line trial.owes trial.ended trial.told ++ frame_lines trial.told frames;
  out = λ head frames text. text ≡ owed_line trial.owes trial.ended trial.told ++ all_lines trial.ended trial.told frames;
  count = trial.told;
  owed = number_owed trial.owes;
  wants = trial.wants;
  started = true;
  ended = trial.ended;
}
