-- What a contract sees of a reader or a writer whose faults are counted.
use Rattle.std.specs.Prelude.{ℕ}

pub record Counted (T : Type 0) : Type 0 where
  pub inner : T
  pub faults : ℕ
