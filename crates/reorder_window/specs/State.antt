-- What a contract sees of a window, and what it stands for.
use Rattle.std.specs.Prelude.{◌≡◌, ℕ, ◌≤◌, ◌<◌, List, [], ◌∷◌, Option, Some, None}
use Rattle.reorder_window.specs.declared.entry.Entry.{Entry}
use Rattle.reorder_window.specs.declared.entry.Last.{Last}
use Rattle.reorder_window.specs.Window.{held, released}

-- the size, the held packets, the greatest stamp first, and the stamp and count of the one released last
pub record Holding (T : Type 0) : Type 0 where
  pub size : ℕ
  pub held : List (Entry T)
  pub last : Option Last

-- the count of the held is their number, at most `size` are held, and the memory has room for one more
pub record HoldingFits (number len size capacity : ℕ) : Type 0 where
  pub counted : len ≡ number
  pub within : len ≤ size
  pub taken : size < capacity

module _ {T : Type 0} where
  -- the stamp and count of the first of the released, the one released last first
  abbrev pub last_of : List (Entry T) → Option Last
  last_of [] = None
  last_of (packet ∷ earlier) = Some (record { stamp = packet.stamp; count = packet.count })

-- the window has had these arrivals, and then so many draining calls that took one
pub record StandsFor {T : Type 0} (window : Holding T) (arrivals : List (Entry T)) (drained : ℕ) : Type 0 where
  pub held : window.held ≡ held window.size arrivals drained
  pub last : window.last ≡ last_of (released window.size arrivals drained)

-- nothing was drained yet: it stands for some arrivals and no draining call
pub record IsUndrained {T : Type 0} (window : Holding T) : Type 0 where
  pub arrivals : List (Entry T)
  pub stands : StandsFor window arrivals 0
