-- What a contract sees of a sink that holds bytes in memory.
use Rattle.std.specs.Prelude.{ℕ, List}

-- the bytes held, how many it holds at most, how many a write takes at most, the numbers of the calls that fail,
-- how many calls came, and how many of them failed
pub record Store : Type 0 where
  pub held : List ℕ
  pub room : ℕ
  pub piece : ℕ
  pub fails : List ℕ
  pub calls : ℕ
  pub faults : ℕ
