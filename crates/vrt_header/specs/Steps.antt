-- What is right of the first words of a prologue behind its header, and where that ends.
use Rattle.std.specs.Prelude.{◌≡◌, ℕ, suc, ◌<◌, ◌≤◌, ◌^◌, true, List, length, slice_index}
use Rattle.vrt_words.specs.Words.{bits}
use Rattle.vrt_time.specs.Time.{fraction_of}
use Rattle.vrt_header.specs.Profile.{PacketProfile}
use Rattle.vrt_header.specs.Header.{prologue_words}
use Rattle.vrt_header.specs.Prologue.{IsClassWord, IsClass}
use Rattle.vrt_header.specs.declared.header.Header.{Header}

-- nothing is wrong with the words below k, the header aside
pub record IsRight (profile : PacketProfile) (header : Header) (words : List ℕ) (k : ℕ) : Type 0 where
  pub class_word : 2 < k → IsClassWord profile header.kind (slice_index words 2)
  pub class : 3 < k → IsClass header.kind (bits (slice_index words 3) 16 16) (bits (slice_index words 3) 0 16)
  -- a higher word would be a second or more with any word behind it
  pub high : 5 < k → header.timed ≡ true → slice_index words 5 ≤ 232
  pub low : 6 < k → header.timed ≡ true → fraction_of (slice_index words 5) (slice_index words 6) < 10 ^ 12

-- the words are right below the place, which is in the prologue, and wrong or missing there
pub record IsWrongAt (profile : PacketProfile) (header : Header) (words : List ℕ) (place : ℕ) : Type 0 where
  pub within : place ≤ length words
  pub inside : place < prologue_words header.timed
  pub right : IsRight profile header words place
  pub here : place < length words → ¬ IsRight profile header words (suc place)

-- the stamp's words are right below the place, and wrong or missing there
pub record IsUnstampedAt (words : List ℕ) (place : ℕ) : Type 0 where
  pub within : place ≤ length words
  pub from : 4 ≤ place
  pub to : place ≤ 6
  pub high : 5 < place → slice_index words 5 ≤ 232
  pub here_high : place ≡ 5 → 5 < length words → 232 < slice_index words 5
  pub here_low : place ≡ 6 → 6 < length words → 10 ^ 12 ≤ fraction_of (slice_index words 5) (slice_index words 6)
  pub here_seconds : place ≡ 4 → length words ≡ 4
