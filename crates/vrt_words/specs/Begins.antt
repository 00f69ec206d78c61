-- Packets of any kind, by a relation of values and lists of words: what begins with some words, which
-- datagrams are packets, and the place at which the others are refused.
use Rattle.std.specs.Prelude.{◌≡◌, ℕ, suc, ◌*◌, ◌<◌, ◌≤◌, List, ◌++◌, length, take}
use Rattle.vrt_words.specs.Words.{words_of, AreWords}

-- some packet begins with the words 0 to w
abbrev pub Begins : {V : Type 0} → (V → List ℕ → Type 0) → List ℕ → ℕ → Type 0
Begins {V} IsPacket words w = (v : V) × ((rest : List ℕ) × (AreWords rest × IsPacket v (take (suc w) words ++ rest)))

-- the bytes are whole words, which are those of a packet with this value
pub record IsDatagram {V : Type 0} (IsPacket : V → List ℕ → Type 0) (v : V) (bytes : List ℕ) : Type 0 where
  pub whole : length bytes ≡ 4 * length (words_of bytes)
  pub packet : IsPacket v (words_of bytes)

-- the least place at which no packet begins so, or the number of whole words where there is none
pub record IsRefusedAt {V : Type 0} (IsPacket : V → List ℕ → Type 0) (words : List ℕ) (place : ℕ) : Type 0 where
  pub within : place ≤ length words
  pub before : (u : ℕ) → u < place → Begins IsPacket words u
  pub here : place < length words → ¬ Begins IsPacket words place

-- the datagram is no packet, and this is its place
pub record IsRefused {V : Type 0} (IsPacket : V → List ℕ → Type 0) (bytes : List ℕ) (place : ℕ) : Type 0 where
  pub at : IsRefusedAt IsPacket (words_of bytes) place
  pub no_packet : (v : V) → ¬ IsDatagram IsPacket v bytes
