-- How a gateway writes what is told now, and the counts at the end.
use Rattle.std.specs.Prelude.{◌≡◌, ℕ, ◌+◌, ◌≤◌, nat_lt, if◌then◌else◌, List, [], ◌∷◌, ◌++◌, length, drop}
use Rattle.vrt_words.specs.Words.{AreBytes}
use Rattle.release_form.specs.Release.{IsRecordOf}
use Rattle.release_form.specs.declared.shown.Shown.TheVariants as shown
use Rattle.stream_routes.specs.Ports.{ports_at}
use Rattle.vrt_fields.specs.declared.route.Route.{Route}
use Rattle.difi_gateway.specs.Releases.{Release, copies}
use Rattle.difi_gateway.specs.State.{Gated, packet_in, items_in, copies_left, IsPlaced}
use Rattle.difi_gateway.specs.Telling.{Telling}
use Rattle.difi_gateway.specs.Telling as telling
use Rattle.difi_gateway.specs.declared.stage.Stage.TheVariants as stages

-- how many copies there are of what is told
abbrev pub number_of_copies : List Route → Telling → ℕ
number_of_copies routes telling.Nothing = 0
number_of_copies routes (telling.Refused frame port refusal detail stamp) = 1
number_of_copies routes (telling.Run index lost run) = length (ports_at routes index)
number_of_copies routes (telling.Version index) = length (ports_at routes index)

-- the copies behind the first of those that are left
abbrev pub copies_behind : Gated → List Release
copies_behind gate = drop (gate.place + 1) (copies gate.routes (items_in gate.routes (packet_in gate.empty) gate.telling))

-- one copy more was told: the next one comes, or nothing is told any more
abbrev pub one_copy_on : Gated → Gated
one_copy_on old =
    if nat_lt (old.place + 1) (number_of_copies old.routes old.telling) then record old { place = old.place + 1 }
    else record old { telling = telling.Nothing; place = 0 }

-- the bytes are the record of the first of the copies that are left
pub record IsNextCopy (gate : Gated) (bytes : List ℕ) : Type 0 where
  pub release : Release
  pub copies_are : copies_left gate ≡ release ∷ copies_behind gate
  pub written : IsRecordOf release.shown release.payload bytes

-- and the next one is told
pub record IsCopyWritten (bytes : List ℕ) (old new : Gated) : Type 0 where
  pub release : Release
  pub copies_are : copies_left old ≡ release ∷ copies_left new
  pub written : IsRecordOf release.shown release.payload bytes
  pub after : new ≡ one_copy_on old
  pub placed : IsPlaced new.routes new.telling new.place

-- the bytes are the record of the counts, and all was told
pub record IsEndWritten (bytes : List ℕ) (old new : Gated) : Type 0 where
  pub written : IsRecordOf (shown.End old.counts) [] bytes
  pub after : new ≡ record old { stage = stages.Over }

-- bytes of which this is true, at most 262,144, stand behind those before
pub record Appends (Is : List ℕ → Type 0) (before after : List ℕ) : Type 0 where
  pub bytes : List ℕ
  pub fit : AreBytes bytes
  pub short : length bytes ≤ 262144
  pub behind : after ≡ before ++ bytes
  pub is : Is bytes
