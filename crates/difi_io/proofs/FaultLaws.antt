-- Laws of counts of faults: what holds of a part of a run holds of the run.
use Rattle.std.proofs.Common.{ℕ, ◌≤◌, arith}
use Rattle.difi_io.specs.Faults.{Rose}

-- a count that rose in the second part of a run rose in the run
pub Rose-later : (start before now : ℕ) → start ≤ before → Rose before now → Rose start now
Rose-later start before now h rose = grind arith
