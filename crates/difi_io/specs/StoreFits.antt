-- What a sink that holds bytes in memory keeps, so that no write needs memory.
use Rattle.std.specs.Prelude.{ℕ, ◌≤◌}

-- the room, of which `len` bytes are taken, lies in the memory that was taken, and a write takes some bytes
pub record StoreFits (len room capacity piece : ℕ) : Type 0 where
  pub within : len ≤ room
  pub taken : room ≤ capacity
  pub some : 1 ≤ piece
