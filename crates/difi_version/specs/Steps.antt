-- What is right of the first words of a version packet behind its prologue, and where that ends.
use Rattle.std.specs.Prelude.{◌≡◌, ℕ, suc, ◌<◌, ◌≤◌, List, length, slice_index}
use Rattle.vrt_words.specs.Words.{bits}
use Rattle.difi_version.specs.Version.{cif1_follows, versions_bits}

-- nothing is wrong with the words below k, the prologue aside
pub record IsRight (words : List ℕ) (k : ℕ) : Type 0 where
  pub cif0 : 7 < k → bits (slice_index words 7) 0 31 ≡ cif1_follows
  pub cif1 : 8 < k → slice_index words 8 ≡ versions_bits
  -- the size in the header is that of 11 words
  pub size : k ≤ 11

-- the words are right below the place, which is behind the prologue, and wrong or missing there
pub record IsWrongAt (words : List ℕ) (place : ℕ) : Type 0 where
  pub within : place ≤ length words
  pub behind : 7 ≤ place
  pub right : IsRight words place
  pub here : place < length words → ¬ IsRight words (suc place)
