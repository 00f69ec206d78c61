use Rattle.std.proofs.Common.{◌≡◌, ◌+◌, ◌*◌, ◌≤◌, ℕ, List, take, drop}
use Rattle.replay_form.specs.HeadSpelling.{AreLimitsSpelled}
use Rattle.replay_form.proofs.head_writing.put_bounds.Given as goal

-- the entries so far
abbrev pub invariant-loop-bound : goal.invariant-loop-bound
invariant-loop-bound l = record {
  agrees : (bytes : List ℕ) → AreLimitsSpelled l.bounds bytes → take 136 l.fn.into ≡ take 136 bytes → take (136 + 28 * l.bound) l.into ≡ take (136 + 28 * l.bound) bytes;
  stays : (n : ℕ) → 136 + 28 * l.bound ≤ n → drop n l.into ≡ drop n l.fn.into;
}
