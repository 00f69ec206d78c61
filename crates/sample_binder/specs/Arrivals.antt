-- What the arrivals at a window release.
use Rattle.std.specs.Prelude.{◌≡◌, ℕ, Bool, List, [], ◌∷◌, ◌++◌, Option, Some, None, Result, Ok, Err, OnErr}
use Rattle.vrt_time.specs.Time.{TimeStamp}
use Rattle.reorder_window.specs.declared.entry.Entry.{Entry}
use Rattle.reorder_window.specs.State.{Holding, StandsFor}
use Rattle.reorder_window.specs.Window.{answer, releases}
use Rattle.sample_binder.specs.declared.arrive.Turned.{Turned}
use Rattle.sample_binder.specs.Calls.{outcome}

abbrev pub released_list : {T : Type 0} → Option (TimeStamp × ℕ × T) → List (TimeStamp × ℕ × T)
released_list None = []
released_list (Some release) = release ∷ []

abbrev pub releases_by : {T : Type 0} → Result (Option (TimeStamp × ℕ × T)) (Turned × T) → List (TimeStamp × ℕ × T)
releases_by (Ok released) = released_list released
releases_by (Err e) = []

-- an arrival was taken, or turned away, as a window does
pub record Takes {T : Type 0} (same : T → T → Bool) (old new : Holding T) (arrivals : List (Entry T)) (arrived : Entry T) (result : Result (Option (TimeStamp × ℕ × T)) (Turned × T)) : Type 0 where
  pub answered : result ≡ outcome (answer same old.size arrivals arrived)
  pub stands : StandsFor new (arrivals ++ arrived ∷ []) 0
  pub given : releases old.size (arrivals ++ arrived ∷ []) 0 ≡ releases old.size arrivals 0 ++ releases_by result
  pub unchanged : OnErr result (new ≡ old)
