-- One stream among all: its runs, its frames, and its records.
use Rattle.std.specs.Prelude.{◌≡◌, ℕ, ◌==◌, Bool, false, if◌then◌else◌, List, [], ◌∷◌, ◌++◌, filter}
use Rattle.difi_packet.specs.Packet.{DataValue, ContextValue}
use Rattle.replay_form.specs.declared.record_head.RecordHead.{RecordHead}
use Rattle.release_form.specs.declared.shown.Shown.{Shown}
use Rattle.release_form.specs.declared.shown.Shown.TheVariants as shown
use Rattle.difi_gateway.specs.Contents.{Content, Holds, Received}
use Rattle.difi_gateway.specs.Told.{Item, RunItem}
use Rattle.difi_gateway.specs.Releases.{Release, IsReleaseRecord, part_of, out_of}

-- the runs of a stream among what is told
abbrev pub is_run_of : ℕ → Item → Bool
is_run_of stream (RunItem other lost run payload) = other == stream
is_run_of stream item = false

abbrev pub runs_of_stream : ℕ → List Item → List Item
runs_of_stream stream items = filter (is_run_of stream) items

-- the frames that are data packets or contexts of a stream
abbrev pub is_of_stream : ℕ → Content → Bool
is_of_stream stream (Holds (DataValue packet)) = packet.prologue.stream == stream
is_of_stream stream (Holds (ContextValue rec)) = rec.prologue.stream == stream
is_of_stream stream content = false

abbrev pub only : ℕ → List Received → List Received
only stream received = filter (λ r. is_of_stream stream r.content) received

-- the releases of kinds 1 to 3 of a stream
abbrev pub is_shown_of : ℕ → Shown → Bool
is_shown_of stream (shown.Run other port lost run) = other == stream
is_shown_of stream shown = false

abbrev pub releases_of_stream : ℕ → List Release → List Release
releases_of_stream stream releases = filter (λ r. is_shown_of stream r.shown) releases

-- before the end and with it, the releases of a stream are those of the stream's own frames alone
pub record IsApart (head : RecordHead) (stream : ℕ) (received : List Received) : Type 0 where
  pub so_far : releases_of_stream stream (part_of head received) ≡ releases_of_stream stream (part_of head (only stream received))
  pub whole : releases_of_stream stream (out_of head received) ≡ releases_of_stream stream (out_of head (only stream received))

-- of bytes that are the records of these releases one after another, the records of a stream
abbrev pub AreStreamRecords : ℕ → List Release → List ℕ → List ℕ → Type 0
AreStreamRecords stream [] bytes part = (bytes ≡ []) × (part ≡ [])
AreStreamRecords stream (release ∷ releases) bytes part =
    (first : List ℕ) × ((rest : List ℕ) × ((others : List ℕ) × (IsReleaseRecord release first × (AreStreamRecords stream releases rest others
    × ((bytes ≡ first ++ rest) × (part ≡ (if is_shown_of stream release.shown then first ++ others else others)))))))
