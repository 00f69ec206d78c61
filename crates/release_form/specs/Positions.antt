-- The numbers at the positions of a record, whose words are counted from 0.
use Rattle.std.specs.Prelude.{ℕ, ◌+◌, ◌*◌, ◌^◌, List, slice_index}
use Rattle.vrt_words.specs.Words.{words_of}
use Rattle.vrt_time.specs.Time.{TimeStamp, stamp_of}

abbrev pub word : List ℕ → ℕ → ℕ
word bytes i = slice_index (words_of bytes) i

-- two words as one number, the high one first
abbrev pub double : List ℕ → ℕ → ℕ
double bytes i = word bytes i * 2 ^ 32 + word bytes (i + 1)

-- four words as one number
abbrev pub quadruple : List ℕ → ℕ → ℕ
quadruple bytes i = double bytes i * 2 ^ 64 + double bytes (i + 2)

-- a word of seconds, and two of picoseconds
abbrev pub stamp_at : List ℕ → ℕ → TimeStamp
stamp_at bytes i = stamp_of (word bytes i) (double bytes (i + 1))
