-- One step of a window, by what it keeps alone.
use Rattle.std.specs.Prelude.{◌≡◌, ℕ, ◌+◌, ◌≤◌, Bool, true, false, ◌==◌, nat_lt, if◌then◌else◌, List, [], ◌∷◌, ◌++◌, length, Option, Some, None, slice_get}
use Rattle.vrt_time.specs.Time.{TimeStamp, moment_of}
use Rattle.reorder_window.specs.declared.entry.Entry.{Entry}
use Rattle.reorder_window.specs.declared.entry.Last.{Last}
use Rattle.reorder_window.specs.declared.arrival.Arrival.{Arrival}
use Rattle.reorder_window.specs.declared.arrival.Arrival.TheVariants.{Kept, Released}
use Rattle.reorder_window.specs.declared.judge.Judged.{Judged}
use Rattle.reorder_window.specs.declared.judge.Judged.TheVariants.{NotAbove, SameItem, OtherItem, Fresh}
use Rattle.reorder_window.specs.Window.{lost_between}

-- the stamp of the packet released last, where this one is not above it
abbrev pub late_by : Option Last → TimeStamp → Option TimeStamp
late_by None stamp = None
late_by (Some last) stamp = if nat_lt (moment_of last.stamp) (moment_of stamp) then None else Some last.stamp

-- the number lost before a packet of this count
abbrev pub lost_after : Option Last → ℕ → ℕ
lost_after None count = 0
lost_after (Some last) count = lost_between last.count count

module _ {T : Type 0} where
  -- how many stand in front of the first whose stamp is not above this one
  abbrev pub number_above : TimeStamp → List (Entry T) → ℕ
  number_above stamp [] = 0
  number_above stamp (b ∷ rest) = if nat_lt (moment_of stamp) (moment_of b.stamp) then number_above stamp rest + 1 else 0

  -- a packet, where it is of this stamp
  abbrev pub of_stamp : TimeStamp → Option (Entry T) → Option (Entry T)
  of_stamp stamp None = None
  of_stamp stamp (Some b) = if moment_of b.stamp == moment_of stamp then Some b else None

  -- the packet of this stamp where it would stand
  abbrev pub found : TimeStamp → List (Entry T) → Option (Entry T)
  found stamp held = of_stamp stamp (slice_get held (number_above stamp held))

-- not late, with one of the same stamp, whose item is the same
pub record IsRepeated {T : Type 0} (same : T → T → Bool) (held : List (Entry T)) (last : Option Last) (stamp : TimeStamp) (item : T) : Type 0 where
  pub above : late_by last stamp ≡ None
  pub twin : Entry T
  pub is_found : found stamp held ≡ Some twin
  pub test : same twin.item item ≡ true

-- or another, with this count
pub record IsContradicted {T : Type 0} (same : T → T → Bool) (held : List (Entry T)) (last : Option Last) (stamp : TimeStamp) (item : T) (count : ℕ) : Type 0 where
  pub above : late_by last stamp ≡ None
  pub twin : Entry T
  pub is_found : found stamp held ≡ Some twin
  pub test : same twin.item item ≡ false
  pub is_count : count ≡ twin.count

-- not late, with none of the same stamp, and its place
pub record IsFresh {T : Type 0} (held : List (Entry T)) (last : Option Last) (stamp : TimeStamp) (place : ℕ) : Type 0 where
  pub above : late_by last stamp ≡ None
  pub alone : found stamp held ≡ None
  pub at_place : place ≡ number_above stamp held
  pub within : place ≤ length held

module _ {T : Type 0} where
  -- what is told of an arrival
  abbrev pub IsJudged : (T → T → Bool) → List (Entry T) → Option Last → TimeStamp → T → Judged → Type 0
  IsJudged same held last stamp item (NotAbove boundary) = late_by last stamp ≡ Some boundary
  IsJudged same held last stamp item SameItem = IsRepeated same held last stamp item
  IsJudged same held last stamp item (OtherItem count) = IsContradicted same held last stamp item count
  IsJudged same held last stamp item (Fresh place) = IsFresh held last stamp place

-- the least of the held was taken: it is the one released last, and given with the number lost before it
pub record IsGiven {T : Type 0} (among : List (Entry T)) (before : Option Last) (after : List (Entry T)) (now : Option Last) (given : TimeStamp × ℕ × T) : Type 0 where
  pub least : Entry T
  pub taken : among ≡ after ++ least ∷ []
  pub last : now ≡ Some (record { stamp = least.stamp; count = least.count })
  pub is_given : given ≡ (least.stamp, lost_after before least.count, least.item)

-- with these held, of which one is new, none is released
pub record IsKept {T : Type 0} (among : List (Entry T)) (before : Option Last) (after : List (Entry T)) (now : Option Last) (answer : Arrival T) : Type 0 where
  pub kept : answer ≡ Kept
  pub same_held : after ≡ among
  pub same_last : now ≡ before

-- or the least is
pub record IsReleased {T : Type 0} (among : List (Entry T)) (before : Option Last) (after : List (Entry T)) (now : Option Last) (answer : Arrival T) : Type 0 where
  pub given : TimeStamp × ℕ × T
  pub is_given : IsGiven among before after now given
  pub released : answer ≡ Released given.0 given.1 given.2
