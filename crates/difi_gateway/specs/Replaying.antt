-- What a gateway tells from now on.
use Rattle.std.specs.Prelude.{◌≡◌, ℕ, Bool, true, false, List, [], ◌++◌, drop, Option, Some, None}
use Rattle.replay_form.specs.FrameFields.{Frame}
use Rattle.replay_form.specs.declared.record_head.RecordHead.{RecordHead}
use Rattle.record_run.specs.Tells.{Tells}
use Rattle.difi_gateway.specs.Contents.{Received, AreReceived}
use Rattle.difi_gateway.specs.Releases.{Release, AreRecordsOf, part_of, out_of}
use Rattle.difi_gateway.specs.State.{Gated, StandsFor, is_ended}
use Rattle.difi_gateway.specs.Progress.{records_owed}

-- Whatever frames it stands for: of these behind them, the records of the releases that were not given.
abbrev pub IsToldOpen : (RecordHead → List Received → List Release) → Gated → RecordHead → List Frame → List ℕ → Type 0
IsToldOpen releases gate head frames text =
    (received : List Received) (given : ℕ) → StandsFor gate head received false given
    → (later : List Received) × (AreReceived head frames later × AreRecordsOf (drop given (releases head (received ++ later))) text)

-- the end was told, so no frames are to come: the records of the releases that were not given
abbrev pub IsToldEnded : Gated → RecordHead → List Frame → List ℕ → Type 0
IsToldEnded gate head frames text =
    frames ≡ [] → (received : List Received) (given : ℕ) → StandsFor gate head received true given → AreRecordsOf (drop given (out_of head received)) text

abbrev pub IsToldAt : Bool → (RecordHead → List Received → List Release) → Gated → RecordHead → List Frame → List ℕ → Type 0
IsToldAt false releases gate head frames text = IsToldOpen releases gate head frames text
IsToldAt true releases gate head frames text = IsToldEnded gate head frames text

-- before the header, all of the record
abbrev pub IsToldBy : (RecordHead → List Received → List Release) → Option Gated → RecordHead → List Frame → List ℕ → Type 0
IsToldBy releases None head frames text = (received : List Received) × (AreReceived head frames received × AreRecordsOf (releases head received) text)
IsToldBy releases (Some gateway) head frames text = IsToldAt (is_ended gateway.stage) releases gateway head frames text

abbrev pub taken_by : Option Gated → ℕ
taken_by None = 0
taken_by (Some gateway) = gateway.taken

abbrev pub owed_by : Option Gated → ℕ
owed_by None = 0
owed_by (Some gateway) = records_owed gateway

abbrev pub is_begun : Option Gated → Bool
is_begun None = false
is_begun (Some gateway) = true

abbrev pub is_over : Option Gated → Bool
is_over None = false
is_over (Some gateway) = is_ended gateway.stage

abbrev pub told_by_gateway : Option Gated → Tells RecordHead Frame
told_by_gateway gateway = record {
  part = IsToldBy part_of gateway;
  out = IsToldBy out_of gateway;
  count = taken_by gateway;
  owed = owed_by gateway;
  wants = true;
  started = is_begun gateway;
  ended = is_over gateway;
}
