-- The releases of a record: what replay writes.
pub use Rattle.stream_routes.specs.Ports.{ports_of}
use Rattle.std.specs.Prelude.{◌≡◌, ℕ, List, [], ◌∷◌, ◌++◌, length, map}
use Rattle.std.specs.List.{flat_map, sum_by}
use Rattle.vrt_words.specs.Words.{AreBytes}
use Rattle.vrt_fields.specs.declared.route.Route.{Route}
use Rattle.replay_form.specs.FrameFields.{Frame}
use Rattle.replay_form.specs.declared.record_head.RecordHead.{RecordHead}
use Rattle.sample_binder.specs.declared.out.Run.TheVariants as run
use Rattle.release_form.specs.Release.{IsRecordOf}
use Rattle.release_form.specs.Refusals.{refusal_number}
use Rattle.release_form.specs.declared.shown.Shown.{Shown}
use Rattle.release_form.specs.declared.shown.Shown.TheVariants as shown
use Rattle.difi_gateway.specs.Contents.{Received, AreReceived}
use Rattle.difi_gateway.specs.Told.{Item, RefusedItem, RunItem, VersionItem, told, told_at_end}

-- a release record: what it says, and the payload or the packet that goes with it
pub record Release : Type 0 where
  pub shown : Shown
  pub payload : List ℕ

-- a run and a version are told once for each port of their stream, a refusal once
abbrev pub copies_of : List Route → Item → List Release
copies_of routes (RefusedItem frame port refusal detail stamp) =
    record { shown = shown.Refused frame port (refusal_number refusal) detail stamp; payload = [] } ∷ []
copies_of routes (RunItem stream lost run payload) =
    map (λ port. record { shown = shown.Run stream port lost run; payload = payload }) (ports_of routes stream)
copies_of routes (VersionItem stream packet) =
    map (λ port. record { shown = shown.Version port; payload = packet }) (ports_of routes stream)

abbrev pub copies : List Route → List Item → List Release
copies routes items = flat_map (copies_of routes) items

-- ---- the counts of what is told, each run and each version once

abbrev pub bound_samples : Item → ℕ
bound_samples (RunItem stream lost (run.Bound stamp first number moment fields bits) payload) = number
bound_samples item = 0

abbrev pub uncertain_samples : Item → ℕ
uncertain_samples (RunItem stream lost (run.Uncertain reason stamp first number moment bits) payload) = number
uncertain_samples item = 0

abbrev pub raw_packets : Item → ℕ
raw_packets (RunItem stream lost (run.Raw reason stamp pad) payload) = 1
raw_packets item = 0

abbrev pub refused_frames : Item → ℕ
refused_frames (RefusedItem frame port refusal detail stamp) = 1
refused_frames item = 0

abbrev pub versions : Item → ℕ
versions (VersionItem stream packet) = 1
versions item = 0

-- frames, bound samples, uncertain samples, raw packets, refused frames, acknowledgements, versions
abbrev pub counts_of : ℕ → List Item → List ℕ
counts_of frames items =
    frames ∷ sum_by bound_samples items ∷ sum_by uncertain_samples items ∷ sum_by raw_packets items ∷ sum_by refused_frames items
    ∷ 0 ∷ sum_by versions items ∷ []

-- ---- part and out

-- the releases of these frames
abbrev pub part_of : RecordHead → List Received → List Release
part_of head received = copies head.routes (told head received)

abbrev pub all_told : RecordHead → List Received → List Item
all_told head received = told head received ++ told_at_end head received

-- the releases of these frames and of what the end adds, and the counts of all these
abbrev pub out_of : RecordHead → List Received → List Release
out_of head received =
    copies head.routes (all_told head received)
    ++ record { shown = shown.End (counts_of (length received) (all_told head received)); payload = [] } ∷ []

-- ---- their bytes

-- these numbers are bytes, and the record of a release
pub record IsReleaseRecord (release : Release) (bytes : List ℕ) : Type 0 where
  pub fit : AreBytes bytes
  pub is : IsRecordOf release.shown release.payload bytes

-- the bytes are the records of these releases, one after another
abbrev pub AreRecordsOf : List Release → List ℕ → Type 0
AreRecordsOf [] bytes = bytes ≡ []
AreRecordsOf (release ∷ releases) bytes =
    (first : List ℕ) × ((rest : List ℕ) × (IsReleaseRecord release first × (AreRecordsOf releases rest × (bytes ≡ first ++ rest))))

-- the bytes of the releases of frames, before the end and with it
abbrev pub IsPartOf : RecordHead → List Frame → List ℕ → Type 0
IsPartOf head frames bytes = (received : List Received) × (AreReceived head frames received × AreRecordsOf (part_of head received) bytes)

abbrev pub IsOutOf : RecordHead → List Frame → List ℕ → Type 0
IsOutOf head frames bytes = (received : List Received) × (AreReceived head frames received × AreRecordsOf (out_of head received) bytes)
