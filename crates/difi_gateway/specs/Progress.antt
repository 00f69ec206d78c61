-- How a gateway goes on from one release record to the next.
use Rattle.std.specs.Prelude.{◌≡◌, ◌≢◌, ◌⊎◌, ℕ, ◌+◌, ◌-◌, ◌*◌, ◌<◌, ◌≤◌, ◌^◌, Bool, List, length, slice_get, sum, Some}
use Rattle.std.specs.List.{sum_by}
use Rattle.replay_form.specs.declared.record_head.RecordHead.{RecordHead}
use Rattle.sample_binder.specs.Binder.{number_kept}
use Rattle.release_form.specs.Release.{IsRecordOf}
use Rattle.difi_gateway.specs.Contents.{Received}
use Rattle.difi_gateway.specs.Releases.{Release}
use Rattle.difi_gateway.specs.State.{Gated, StandsFor, IsSound, is_drawn, releases_of, is_ended}
use Rattle.difi_gateway.specs.Drawing.{IsDrawn, IsGoneOn}
use Rattle.difi_gateway.specs.Writing.{number_of_copies}
use Rattle.difi_gateway.specs.declared.drawn.Drawn.{Drawn}
use Rattle.difi_gateway.specs.declared.drawn.Drawn.TheVariants as drawn
use Rattle.difi_gateway.specs.Telling.{Telling}
use Rattle.difi_gateway.specs.Telling as telling
use Rattle.difi_gateway.specs.declared.stage.Stage.{Stage}
use Rattle.difi_gateway.specs.declared.stage.Stage.TheVariants as stages

-- the binder of this route gave its next output, or owes nothing and the gateway goes on behind it
abbrev pub IsMovedBy : Drawn → ℕ → Gated → Gated → Type 0
IsMovedBy drawn.Packet index old new = IsDrawn index drawn.Packet old new
IsMovedBy drawn.Run index old new = IsDrawn index drawn.Run old new
IsMovedBy drawn.Nothing index old new = (mid : Gated) × (IsDrawn index drawn.Nothing old mid × IsGoneOn mid.stage mid new)

abbrev pub IsMoved : ℕ → Gated → Gated → Type 0
IsMoved index old new = (result : Drawn) × IsMovedBy result index old new

-- ---- how far it is to the next record

-- the binders that may still give something
abbrev pub binders_left : ℕ → Stage → ℕ
binders_left routes stages.Waiting = 0
binders_left routes (stages.Drawing index) = 1
binders_left routes (stages.Ending index) = routes + 1 - index
binders_left routes stages.Over = 0

abbrev pub one_where_nothing : Telling → ℕ
one_where_nothing telling.Nothing = 1
one_where_nothing (telling.Refused frame port refusal detail stamp) = 0
one_where_nothing (telling.Run index lost run) = 0
one_where_nothing (telling.Version index) = 0

abbrev pub steps_left : Gated → ℕ
steps_left gate = 2 * (sum_by number_kept gate.binders + binders_left (length gate.binders) gate.stage) + one_where_nothing gate.telling

-- ---- a bound of the records that are owed: it falls with each one

-- whether nothing is owed by where it stands
abbrev pub owed_at_stage : Stage → ℕ → ℕ
owed_at_stage stages.Waiting number = 0
owed_at_stage (stages.Drawing index) number = number
owed_at_stage (stages.Ending index) number = number
owed_at_stage stages.Over number = 0

abbrev pub owed_by_telling : Stage → Telling → ℕ → ℕ
owed_by_telling stage telling.Nothing number = owed_at_stage stage number
owed_by_telling stage (telling.Refused frame port refusal detail stamp) number = number
owed_by_telling stage (telling.Run index lost run) number = number
owed_by_telling stage (telling.Version index) number = number

-- the more was told, the less can be told yet; and so many copies of what is told now
abbrev pub may_be_told : Gated → ℕ
may_be_told gate = 1 + (8 * (2 ^ 70 - sum gate.counts) + (number_of_copies gate.routes gate.telling - gate.place))

abbrev pub records_owed : Gated → ℕ
records_owed gate = owed_by_telling gate.stage gate.telling (may_be_told gate)

-- ---- what a call that writes says

-- a release was given: the next of all that are told of the frames
pub record IsGiven (head : RecordHead) (received : List Received) (ended : Bool) (given : ℕ) (bytes : List ℕ) : Type 0 where
  pub release : Release
  pub next : slice_get (releases_of head received ended) given ≡ Some release
  pub written : IsRecordOf release.shown release.payload bytes

-- all was given
abbrev pub IsAllGiven : RecordHead → List Received → Bool → ℕ → Type 0
IsAllGiven head received ended given = given ≡ length (releases_of head received ended)

-- nothing is told, and it waits for a frame or the end, or all was told
pub record IsSettledAt (gate : Gated) : Type 0 where
  pub telling : gate.telling ≡ telling.Nothing
  pub stage : (gate.stage ≡ stages.Waiting) ⊎ (gate.stage ≡ stages.Over)

-- something is told, or the counts alone are left
abbrev pub IsOwing : Gated → Type 0
IsOwing gate = (gate.telling ≢ telling.Nothing) ⊎ ((index : ℕ) × (gate.stage ≡ stages.Ending index))

-- a gateway on its way to the next release record
pub record IsOnWay (start now : Gated) : Type 0 where
  pub stands : (head : RecordHead) (received : List Received) (ended : Bool) (given : ℕ) → StandsFor start head received ended given → StandsFor now head received ended given
  pub ended : is_ended now.stage ≡ is_ended start.stage
  pub taken : now.taken ≡ start.taken
  pub owed : records_owed now ≤ records_owed start

-- nothing is told, and the binder of this route can be drawn from
pub record IsDrawnAt (index : ℕ) (gate : Gated) : Type 0 where
  pub quiet : gate.telling ≡ telling.Nothing
  pub drawn : is_drawn gate.stage index
  pub within : index < length gate.binders

-- these bytes are the record of the next release, which is given then
pub record IsNextGiven (bytes : List ℕ) (old new : Gated) : Type 0 where
  pub next : (head : RecordHead) (received : List Received) (ended : Bool) (given : ℕ) → StandsFor old head received ended given
      → IsGiven head received ended given bytes × StandsFor new head received ended (given + 1)
  pub ended : is_ended new.stage ≡ is_ended old.stage
  pub taken : new.taken ≡ old.taken
  pub less : records_owed new < records_owed old
  pub sound : IsSound new

-- nothing is owed, and nothing changed
pub record IsNoneGiven (old new : Gated) : Type 0 where
  pub settled : IsSettledAt old
  pub same : new ≡ old
