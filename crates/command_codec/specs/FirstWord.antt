-- Packets whose content is a word with a rule and then free words up to the size; they serve the proofs of the refused place.
use Rattle.std.specs.Prelude.{◌≡◌, ℕ, suc, ◌+◌, ◌^◌, ◌<◌, List, ◌∷◌, ◌++◌, length, take, drop, slice_index}
use Rattle.vrt_words.specs.Words.{words_of, AreWords}
use Rattle.vrt_header.specs.Profile.{PacketProfile}
use Rattle.cam_field.specs.declared.modes.Role.{Role}
use Rattle.command_prologue.specs.CommandPrologue.{IsCommandPrologue, command_words}
use Rattle.vrt_words.specs.Sizes.{IsOtherSize}
use Rattle.command_prologue.specs.declared.prologue.CommandPrologue.{CommandPrologue}

-- what a packet has: its prologue, its size, and the word behind the prologue
pub record HasFirst (profile : PacketProfile) (role : Role) (IsFirst : CommandPrologue → ℕ → Type 0) (words : List ℕ) : Type 0 where
  pub front : CommandPrologue
  pub is_front : IsCommandPrologue profile role front (take (command_words front) words)
  pub size : front.prologue.header.size ≡ length words
  pub first : ℕ
  pub rest : List ℕ
  pub behind : drop (command_words front) words ≡ first ∷ rest
  pub is_first : IsFirst front first

-- the packets are those that have a prologue, a first word of its rule, and words up to the size
pub record AreByFirst {V : Type 0} (profile : PacketProfile) (role : Role) (IsFirst : CommandPrologue → ℕ → Type 0) (IsWhole : V → List ℕ → Type 0) : Type 0 where
  pub has : (v : V) (words : List ℕ) → IsWhole v words → HasFirst profile role IsFirst words
  pub there : (front : CommandPrologue) (words : List ℕ) → IsCommandPrologue profile role front words → (x : ℕ) × (x < 2 ^ 32) × IsFirst front x × (command_words front < front.prologue.header.size)
  pub whole : (front : CommandPrologue) (words : List ℕ) (x : ℕ) (rest : List ℕ) → IsCommandPrologue profile role front words → IsFirst front x → AreWords rest
      → front.prologue.header.size ≡ command_words front + suc (length rest) → (v : V) × IsWhole v (words ++ (x ∷ rest))

-- where the words behind the prologue end or go wrong: the first is missing, or wrong, or the length is another
pub data IsRefusedBehind (IsFirst : CommandPrologue → ℕ → Type 0) (front : CommandPrologue) (bytes : List ℕ) (place : ℕ) : Type 0 where
  missing : length (words_of bytes) ≡ command_words front → place ≡ command_words front → IsRefusedBehind IsFirst front bytes place
  wrong : command_words front < length (words_of bytes) → place ≡ command_words front
      → ¬ IsFirst front (slice_index (words_of bytes) (command_words front)) → IsRefusedBehind IsFirst front bytes place
  other : command_words front < length (words_of bytes) → IsFirst front (slice_index (words_of bytes) (command_words front))
      → IsOtherSize front.prologue.header.size bytes place → IsRefusedBehind IsFirst front bytes place
