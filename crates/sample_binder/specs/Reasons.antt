-- The table of the reasons why samples are bound to no context.
use Rattle.std.specs.Prelude.{◌≡◌, ℕ, ◌≤◌}
use Rattle.sample_binder.specs.declared.reason.Reason.{Reason}
use Rattle.sample_binder.specs.declared.reason.Reason.TheVariants.{BeforeFirst, ContextLost, PendingFull, TimelineFull, Ended, FormatChanged, Shape}

-- its number
abbrev pub number_of : Reason → ℕ
number_of BeforeFirst = 1
number_of (ContextLost lost) = 2
number_of PendingFull = 3
number_of TimelineFull = 4
number_of Ended = 5
number_of FormatChanged = 6
number_of Shape = 7

-- the detail beside it: how many contexts were lost
abbrev pub detail_of : Reason → ℕ
detail_of BeforeFirst = 0
detail_of (ContextLost lost) = lost
detail_of PendingFull = 0
detail_of TimelineFull = 0
detail_of Ended = 0
detail_of FormatChanged = 0
detail_of Shape = 0

-- from 1 to 15 contexts are lost
abbrev pub IsInTable : Reason → Type 0
IsInTable BeforeFirst = Unit {0}
IsInTable (ContextLost lost) = (1 ≤ lost) × (lost ≤ 15)
IsInTable PendingFull = Unit {0}
IsInTable TimelineFull = Unit {0}
IsInTable Ended = Unit {0}
IsInTable FormatChanged = Unit {0}
IsInTable Shape = Unit {0}

-- a row of the table
pub record IsReason (reason : Reason) (number detail : ℕ) : Type 0 where
  pub number_is : number_of reason ≡ number
  pub detail_is : detail_of reason ≡ detail
  pub in_table : IsInTable reason
