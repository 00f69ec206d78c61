-- How far a text has come on its way to a sink.
use Rattle.std.specs.Prelude.{◌≡◌, ℕ, ◌≤◌, Bool, true, false, List, ◌++◌, length, take, Option}
use Rattle.std.specs.Io.KnownBytes.{Appends}
use Rattle.difi_io.specs.Faults.{Rose}

-- a first part of the text was appended since the start, and a write failed
abbrev pub IsCutOff : Option (List ℕ) → Option (List ℕ) → ℕ → ℕ → List ℕ → Type 0
IsCutOff start held before now text =
    (n : ℕ) × ((n ≤ length text) × (Appends start held (take n text) × Rose before now))

-- the text was appended since the start, but for what still waits, and no write failed; or it was cut off
abbrev pub IsSent : Bool → Option (List ℕ) → Option (List ℕ) → ℕ → ℕ → List ℕ → List ℕ → Type 0
IsSent false start held before now waiting text =
    (written : List ℕ) × (Appends start held written × ((text ≡ written ++ waiting) × (now ≡ before)))
IsSent true start held before now waiting text = IsCutOff start held before now text
