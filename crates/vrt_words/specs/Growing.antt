-- Packets that are a front of its own grammar and then words, each of which may follow those in front of it.
use Rattle.std.specs.Prelude.{ℕ, suc, ◌^◌, ◌<◌, ◌≤◌, ◌⊎◌, List, [], ◌∷◌, ◌++◌, length, take}
use Rattle.vrt_words.specs.Words.{AreWords}

-- IsBegun f words: behind the front f a packet may go on with these words. Each packet has a front, and goes on so behind
-- it; and what goes on so is a packet, or has a next word.
pub record AreGrown {F V : Type 0} (IsFront : F → List ℕ → Type 0) (IsWhole : V → List ℕ → Type 0) (IsBegun : F → List ℕ → Type 0) (most : F → ℕ) : Type 0 where
  pub front : (v : V) (words : List ℕ) → IsWhole v words → (f : F) × ((m : ℕ) × IsFront f (take m words))
  pub sound : (f : F) (v : V) (front words rest : List ℕ) → IsFront f front → IsWhole v (front ++ (words ++ rest)) → IsBegun f words
  pub start : (f : F) (front : List ℕ) → IsFront f front → IsBegun f []
  pub next : (f : F) (front words : List ℕ) → IsFront f front → AreWords words → IsBegun f words
      → ((v : V) × IsWhole v (front ++ words)) ⊎ ((x : ℕ) × ((x < 2 ^ 32) × IsBegun f (words ++ x ∷ [])))
  pub bounded : (f : F) (words : List ℕ) → IsBegun f words → length words ≤ most f

-- the words go on so up to the place, and not with the word there, if there is one
pub record IsStoppedAt (IsBegun : List ℕ → Type 0) (words : List ℕ) (place : ℕ) : Type 0 where
  pub within : place ≤ length words
  pub begun : IsBegun (take place words)
  pub here : place < length words → ¬ IsBegun (take (suc place) words)
