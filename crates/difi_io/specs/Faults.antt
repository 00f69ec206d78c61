-- Counts of faults, which stop at their last value, and what it means that a failed call has its cause there.
use Rattle.std.specs.Prelude.{◌≡◌, ℕ, ◌+◌, ◌-◌, ◌^◌, ◌<◌, ◌≤◌, ◌⊎◌, min, Result, IsErr, OnOk}

-- one more, of a counter of 64 bits that stops at its last value
abbrev pub counted : ℕ → ℕ
counted n = min (n + 1) (2 ^ 64 - 1)

-- the count rose from before to now, or it stands at its last value
abbrev pub Rose : ℕ → ℕ → Type 0
Rose before now = (before < now) ⊎ (now ≡ 2 ^ 64 - 1)

-- a count of faults never falls; a call fails only where the count rose, and an Ok leaves it
pub record HasCause {T E : Type 0} (before now : ℕ) (result : Result T E) : Type 0 where
  pub later : before ≤ now
  pub failed : IsErr result → Rose before now
  pub kept : OnOk result (now ≡ before)
