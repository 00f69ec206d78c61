-- What each mark says, over all contexts that were added.
use Rattle.std.specs.Prelude.{◌≡◌, ◌⊎◌, ℕ, ◌+◌, ◌<◌, ◌≤◌, false, List, length, slice_get, slice_index, Some}
use Rattle.vrt_time.specs.Time.{moment_of}
use Rattle.context_timeline.specs.declared.timed_context.TimedContext.{TimedContext}
use Rattle.context_timeline.specs.declared.mark.Mark.{Mark}
use Rattle.context_timeline.specs.declared.mark.Mark.TheVariants.{Open, BeforeFirst, TimelineFull, Lost, Bound}
use Rattle.context_timeline.specs.State.{moments}

-- the context of this number is one of the last ones, which are kept
pub record IsAmongKept (limit : ℕ) (contexts : List TimedContext) (number : ℕ) : Type 0 where
  pub added : number < length contexts
  pub last : length contexts ≤ number + limit

abbrev pub AllKeptAfter : ℕ → List TimedContext → ℕ → Type 0
AllKeptAfter limit contexts t = (number : ℕ) → IsAmongKept limit contexts number → t < slice_index (moments contexts) number

abbrev pub NoKeptAfter : ℕ → List TimedContext → ℕ → Type 0
NoKeptAfter limit contexts t = (number : ℕ) → IsAmongKept limit contexts number → slice_index (moments contexts) number ≤ t

-- one context was lost between a and b, b says that nothing changed, and their fields are equal
pub record IsSame (a b : TimedContext) : Type 0 where
  pub one : b.lost ≡ 1
  pub unchanged : b.changed ≡ false
  pub fields : a.fields ≡ b.fields

-- nothing was lost between a and b, or what was lost made no difference
abbrev pub IsWhole : TimedContext → TimedContext → Type 0
IsWhole a b = (b.lost ≡ 0) ⊎ IsSame a b

-- a, which has this number and is kept, is not after t, and b, the next, is
pub record IsBetween (limit : ℕ) (contexts : List TimedContext) (t number : ℕ) (a b : TimedContext) : Type 0 where
  pub kept : IsAmongKept limit contexts number
  pub first : slice_get contexts number ≡ Some a
  pub second : slice_get contexts (number + 1) ≡ Some b
  pub reached : moment_of a.stamp ≤ t
  pub not_yet : t < moment_of b.stamp

-- between a and b, where n were lost, and it may have made a difference
pub record IsLost (limit : ℕ) (contexts : List TimedContext) (t n : ℕ) : Type 0 where
  pub number : ℕ
  pub a : TimedContext
  pub b : TimedContext
  pub between : IsBetween limit contexts t number a b
  pub lost : n ≡ b.lost
  pub not_whole : ¬ IsWhole a b

-- between a and b, where nothing that was lost made a difference: a is in force
pub record IsBoundMark (limit : ℕ) (contexts : List TimedContext) (t number : ℕ) (fields : List ℕ) : Type 0 where
  pub a : TimedContext
  pub b : TimedContext
  pub between : IsBetween limit contexts t number a b
  pub fields_told : fields ≡ a.fields
  pub whole : IsWhole a b

-- the mark of the moment t, where the last contexts are kept, up to the limit
abbrev pub IsMark : ℕ → List TimedContext → ℕ → Mark → Type 0
IsMark limit contexts t Open = NoKeptAfter limit contexts t
IsMark limit contexts t BeforeFirst = (0 < length contexts) × (length contexts ≤ limit) × AllKeptAfter limit contexts t
IsMark limit contexts t TimelineFull = (limit < length contexts) × AllKeptAfter limit contexts t
IsMark limit contexts t (Lost n) = IsLost limit contexts t n
IsMark limit contexts t (Bound number fields) = IsBoundMark limit contexts t number fields
