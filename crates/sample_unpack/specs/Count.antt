-- How many samples a payload has.
use Rattle.std.specs.Prelude.{◌≡◌, ℕ, ◌+◌, ◌*◌, ◌<◌}

-- the bits of so many 32-bit words, less the unused ones at the end, are those of `count` samples
-- whose two items have `width` bits each, and there is one at least
pub record HoldsSamples (words pad width count : ℕ) : Type 0 where
  pub some : 0 < count
  pub exact : 2 * width * count + pad ≡ 32 * words
