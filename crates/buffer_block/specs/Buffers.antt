-- What a contract sees of a buffer.
use Rattle.std.specs.Prelude.{ℕ, List, []}

-- the most bytes that it can hold, and those there
pub record Buffer : Type 0 where
  pub room : ℕ
  pub bytes : List ℕ

-- a buffer that holds no bytes yet
abbrev pub fresh : ℕ → Buffer
fresh room = record { room = room; bytes = [] }
