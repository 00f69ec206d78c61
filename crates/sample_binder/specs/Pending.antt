-- A data packet that the window has released: its buffer, what counts of it beside its samples, and the number of data
-- packets lost before it.
use Rattle.std.specs.Prelude.{ℕ}
use Rattle.vrt_words.specs.Buffer.{Buffer}
use Rattle.sample_binder.specs.declared.sampling.Shape.{Shape}

pub record Pending : Type 0 where
  pub buf : Buffer
  pub shape : Shape
  pub lost : ℕ
