-- What is true of the fields of each context: a rate and an item size within their ranges.
use Rattle.std.specs.Prelude.{ℕ, ◌<◌, ◌≤◌, ◌^◌, List}
use Rattle.sample_binder.specs.Samples.{rate_in, size_in}

pub record HasSampling (fields : List ℕ) : Type 0 where
  pub least : 2 ^ 20 ≤ rate_in fields
  pub most : rate_in fields < 2 ^ 63
  pub some_bits : 4 ≤ size_in fields
  pub most_bits : size_in fields ≤ 16
