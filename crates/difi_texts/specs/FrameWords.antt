-- The number of a frame with the words that its line begins with.
use Rattle.std.specs.Prelude.{◌≡◌, ℕ, ◌≤◌, List, ◌++◌, drop, codes}
use Rattle.std.specs.Fmt.{decimal}

-- from the start on, the words are those of the number
pub record AreFrameWords (number start : ℕ) (words : List ℕ) : Type 0 where
  pub within : start ≤ 20
  pub text : drop start words ≡ codes "frame " ++ decimal number
