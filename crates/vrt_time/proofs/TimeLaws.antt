-- Laws of stamps and captured samples, by their moments.
use Rattle.std.proofs.Common.{ℕ, ◌<◌, ◌≤◌, arith}
use Rattle.std.proofs.lemmas.Grind.{common_steps}
use Rattle.vrt_time.specs.Time.{TimeStamp, capture_at}

-- no sample is captured before an earlier one
pub capture_at-le : (stamp : TimeStamp) (m n rate : ℕ) → m ≤ n → 0 < rate → capture_at stamp m rate ≤ capture_at stamp n rate
capture_at-le stamp m n rate h z = grind (arith, common_steps)
