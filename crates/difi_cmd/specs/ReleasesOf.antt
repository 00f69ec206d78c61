-- The releases of a record, by its bytes; and headers of two forms that say the same.
use Rattle.std.specs.Prelude.{◌≡◌, ◌↔◌, ◌⊎◌, ℕ, ◌<◌, List, [], length, slice_index, get_or}
use Rattle.vrt_fields.specs.declared.route.Route.{Route}
use Rattle.replay_form.specs.FrameFields.{Frame}
use Rattle.replay_form.specs.Record.{IsRecord}
use Rattle.replay_form.specs.Standing.{HasNoHead, HasFrames}
use Rattle.replay_form.specs.declared.record_head.RecordHead.{RecordHead}
use Rattle.difi_gateway.specs.Releases.{IsPartOf, IsOutOf}

-- the bytes are a record, and these are the bytes of its releases
abbrev pub AreReleasesOf : List ℕ → List ℕ → Type 0
AreReleasesOf bytes releases = (head : RecordHead) × ((frames : List Frame) × (IsRecord head frames bytes × IsOutOf head frames releases))

-- the same of the frames that stand whole in the bytes, before the end
abbrev pub AreReleasesSoFar : List ℕ → List ℕ → Type 0
AreReleasesSoFar bytes releases =
    (HasNoHead bytes × (releases ≡ []))
    ⊎ ((head : RecordHead) × ((frames : List Frame) × (HasFrames head frames bytes × IsPartOf head frames releases)))

-- two records have the same releases
abbrev pub HaveSameReleases : List ℕ → List ℕ → Type 0
HaveSameReleases bytes others = (releases : List ℕ) → AreReleasesOf bytes releases ↔ AreReleasesOf others releases

-- the same stream goes to the same port, and to no other
pub record IsOnePort (route other : Route) : Type 0 where
  pub stream : other.stream ≡ route.stream
  pub port : slice_index other.ports 0 ≡ slice_index route.ports 0
  pub one : other.number ≡ 1

-- a header of form 1, and one of form 2 with the same values and one port a route
pub record HasOnePortEach (head other : RecordHead) : Type 0 where
  pub first : head.form ≡ 1
  pub values : other ≡ record head { form = 2; routes = other.routes }
  pub all : length other.routes ≡ length head.routes
  pub ports : (k : ℕ) (none : Route) → k < length head.routes → IsOnePort (get_or head.routes k none) (get_or other.routes k none)
