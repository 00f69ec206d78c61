-- The words of a stamp that may be absent.
use Rattle.std.specs.Prelude.{ℕ, List, [], ◌∷◌, Option, Some, None}
use Rattle.vrt_time.specs.Time.{TimeStamp, parts_of}

-- zeros where there is no stamp
abbrev pub stamp_words : Option TimeStamp → List ℕ
stamp_words (Some stamp) = parts_of stamp
stamp_words None = 0 ∷ 0 ∷ 0 ∷ []
