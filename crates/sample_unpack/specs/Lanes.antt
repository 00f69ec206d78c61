-- Numbers of 16 bits side by side.
use Rattle.std.specs.Prelude.{ℕ, ◌+◌, ◌*◌, ◌^◌}

-- four of them, the first in the highest bits
abbrev pub four : ℕ → ℕ → ℕ → ℕ → ℕ
four a b c d = ((a * 2 ^ 16 + b) * 2 ^ 16 + c) * 2 ^ 16 + d
