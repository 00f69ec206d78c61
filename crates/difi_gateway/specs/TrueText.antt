-- When the release records of a record are true of what the sites of its streams sent.
use Rattle.std.specs.Prelude.{◌≡◌, ℕ, ◌+◌, ◌==◌, ◌&&◌, Bool, false, true, List, [], ◌∷◌, ◌++◌, length, filter, Some}
use Rattle.std.specs.List.{AllByRecursion, flat_map}
use Rattle.vrt_words.specs.Words.{AreBytes}
use Rattle.record_run.specs.Outcome.{Moves}
use Rattle.replay_form.specs.FrameFields.{Frame}
use Rattle.replay_form.specs.Record.{IsRecord}
use Rattle.replay_form.specs.declared.record_head.RecordHead.{RecordHead}
use Rattle.release_form.specs.declared.shown.Shown.{Shown}
use Rattle.release_form.specs.declared.shown.Shown.TheVariants as shown
use Rattle.sample_binder.specs.Parts.{Part, payload_of}
use Rattle.sample_binder.specs.declared.out.Out.{Out}
use Rattle.sample_binder.specs.declared.out.Run.{Run}
use Rattle.site_truth.specs.Delivered.{Delivery}
use Rattle.site_truth.specs.Truth.{AreTrue}
use Rattle.stream_routes.specs.Ports.{is_listed}
use Rattle.difi_gateway.specs.Contents.{Received, AreReceived}
use Rattle.difi_gateway.specs.StreamDelivered.{IsFirstArrival, IsPortOf, IsStreamDelivered}
use Rattle.difi_gateway.specs.Releases.{Release, AreRecordsOf}

-- ---- one stream and one port

-- of these releases those of kinds 1 to 3 of a stream for one of its ports
abbrev pub is_run_for : ℕ → ℕ → Shown → Bool
is_run_for stream port (shown.Run other another lost run) = other == stream && another == port
is_run_for stream port shown = false

abbrev pub releases_for : ℕ → ℕ → List Release → List Release
releases_for stream port releases = filter (λ r. is_run_for stream port r.shown) releases

-- a run of a packet of this payload
abbrev pub release_of : ℕ → ℕ → List ℕ → ℕ → Run → Release
release_of stream port payload lost run = record { shown = shown.Run stream port lost run; payload = payload }

-- one for each of its runs: the first tells the number lost before the packet, each other one 0
abbrev pub releases_of_runs : ℕ → ℕ → List ℕ → ℕ → List Run → List Release
releases_of_runs stream port payload lost [] = []
releases_of_runs stream port payload lost (run ∷ runs) =
    release_of stream port payload lost run ∷ releases_of_runs stream port payload 0 runs

-- a packet that leaves, in its runs
abbrev pub releases_of_part : ℕ → ℕ → Part → List Release
releases_of_part stream port part = releases_of_runs stream port (payload_of part.buf.bytes) part.lost part.runs

-- For this port they are the data packets that arrive, in the order of sending, each once, and each with what is true of it.
pub record AreTrueReleases (delivery : Delivery) (stream port : ℕ) (releases : List Release) : Type 0 where
  pub outs : List Out
  pub are_true : AreTrue delivery outs
  pub releases_are : releases_for stream port releases ≡ flat_map (releases_of_part stream port) are_true.parts

-- ---- first arrivals

-- the frame of this number is refused
abbrev pub Refuses : ℕ → Shown → Type 0
Refuses number (shown.Refused frame port reason detail stamp) = frame ≡ number
Refuses number (shown.Run stream port lost run) = ⊥
Refuses number (shown.Ack port) = ⊥
Refuses number (shown.Version port) = ⊥
Refuses number (shown.End counts) = ⊥

-- by none of these releases; frames are numbered from 1
abbrev pub IsNotRefused : List Received → List Release → Type 0
IsNotRefused before releases = AllByRecursion (λ (release : Release). ¬ Refuses (length before + 1) release.shown) releases

-- ---- a whole record

-- These releases of frames are true, of each stream of which the frames are a delivery, for each of its ports.
abbrev pub AreTrueOf : RecordHead → List Received → List Release → Type 0
AreTrueOf head received releases =
    (stream port : ℕ) (delivery : Delivery) → IsPortOf head.routes stream port → IsStreamDelivered head received stream delivery
    → AreTrueReleases delivery stream port releases

-- And they refuse no frame that brings a packet of such a stream for the first time.
abbrev pub AreFirstTaken : RecordHead → List Received → List Release → Type 0
AreFirstTaken head received releases =
    (stream : ℕ) (delivery : Delivery) → is_listed head.routes stream ≡ true → IsStreamDelivered head received stream delivery
    → (before later : List Received) (r : Received) → received ≡ before ++ r ∷ later → IsFirstArrival stream before r
    → IsNotRefused before releases

-- The text is the records of releases, one after another, of which both hold.
pub record IsTrueText (head : RecordHead) (received : List Received) (text : List ℕ) : Type 0 where
  pub releases : List Release
  pub records : AreRecordsOf releases text
  pub are_true : AreTrueOf head received releases
  pub first_taken : AreFirstTaken head received releases

-- It is true of bytes that are a record, with what its frames hold.
abbrev pub IsTrueOf : List ℕ → List ℕ → Type 0
IsTrueOf bytes text =
    (head : RecordHead) (frames : List Frame) (received : List Received) → IsRecord head frames bytes → AreReceived head frames received
    → IsTrueText head received text

-- Where the source told these bytes and the sink those that it held, what was written behind them is true of the record that was read.
abbrev pub IsTrueReplay : Moves → Type 0
IsTrueReplay moves =
    (bytes before : List ℕ) → moves.left ≡ Some bytes → moves.held ≡ Some before → AreBytes bytes
    → (text : List ℕ) × (moves.held_now ≡ Some (before ++ text)) × IsTrueOf bytes text
