use Rattle.std.proofs.Common.{◌≡◌, ◌+◌, ◌*◌, ◌≤◌, true, ℕ, List, take, drop}
use Rattle.replay_form.specs.HeadSpelling.{AreRoutesSpelled}
use Rattle.replay_form.proofs.head_writing.put_second_routes.Given as goal

-- the routes so far
abbrev pub invariant-loop-place : goal.invariant-loop-place
invariant-loop-place l = record {
  agrees : (bytes : List ℕ) → AreRoutesSpelled true l.routes bytes → take 332 l.fn.into ≡ take 332 bytes
      → take (332 + 16 * l.place) l.into ≡ take (332 + 16 * l.place) bytes;
  stays : (n : ℕ) → 332 + 16 * l.place ≤ n → drop n l.into ≡ drop n l.fn.into;
}
