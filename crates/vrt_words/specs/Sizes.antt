-- Where a datagram is refused that has not the length of its packet's size.
use Rattle.std.specs.Prelude.{◌≡◌, ◌≢◌, ℕ, ◌*◌, List, length, min}
use Rattle.vrt_words.specs.Words.{words_of}

-- the number of whole words where bytes are missing, and the size where there are too many
pub record IsOtherSize (size : ℕ) (bytes : List ℕ) (place : ℕ) : Type 0 where
  pub other : length bytes ≢ 4 * size
  pub place_told : place ≡ min (length (words_of bytes)) size
