-- What a contract sees of a source over bytes in memory.
use Rattle.std.specs.Prelude.{ℕ, List}

-- the bytes left, and how many a read gives at most
pub record Supply : Type 0 where
  pub left : List ℕ
  pub piece : ℕ

-- the bytes that are left, the size of a piece, the numbers of the calls that fail, how many calls came, and how many of them failed
pub record FailingSupply : Type 0 where
  pub left : List ℕ
  pub piece : ℕ
  pub fails : List ℕ
  pub calls : ℕ
  pub faults : ℕ
