-- Outputs as whole packets: each packet that leaves, and then its runs.
use Rattle.std.specs.Prelude.{◌≡◌, ◌≢◌, ℕ, ◌+◌, ◌≤◌, List, [], ◌∷◌, ◌++◌, length, drop, map}
use Rattle.std.specs.List.{AllByRecursion}
use Rattle.vrt_words.specs.Buffer.{Buffer}
use Rattle.vrt_header.specs.Profile.{PacketProfile}
use Rattle.difi_context.specs.Context.{IsSpelled}
use Rattle.sample_binder.specs.declared.out.Out.{Out}
use Rattle.sample_binder.specs.declared.out.Out.TheVariants as out
use Rattle.sample_binder.specs.declared.out.Run.{Run}
use Rattle.sample_binder.specs.declared.out.Run.TheVariants as run
use Rattle.sample_binder.specs.Calls.{Call, ContextCall, DataCall, EndCall}
use Rattle.sample_binder.specs.Given.{IsDataOf, HasDataSize}
use Rattle.sample_binder.specs.RunRules.{IsWritable}

-- the packet of a call is one of its kind
abbrev pub IsCallOf : PacketProfile → Call → Type 0
IsCallOf profile (ContextCall rec) = IsSpelled profile rec
IsCallOf profile (DataCall buf) = IsDataOf profile buf.bytes
IsCallOf profile EndCall = Unit {0}

abbrev pub AreCallsOf : PacketProfile → List Call → Type 0
AreCallsOf profile calls = AllByRecursion (IsCallOf profile) calls

-- a packet that leaves, the number lost before it, and the runs in which it leaves
pub record Part : Type 0 where
  pub buf : Buffer
  pub lost : ℕ
  pub runs : List Run

-- what is given of it
abbrev pub outs_of_part : Part → List Out
outs_of_part part = out.Packet part.buf part.lost ∷ map out.Run part.runs

abbrev pub outs_of : List Part → List Out
outs_of [] = []
outs_of (part ∷ parts) = outs_of_part part ++ outs_of parts

-- the bytes of a data packet behind its prologue
abbrev pub payload_of : List ℕ → List ℕ
payload_of bytes = drop 28 bytes

-- the buffer was given by one of the calls
pub record IsGivenIn (calls : List Call) (buf : Buffer) : Type 0 where
  pub before : List Call
  pub later : List Call
  pub there : calls ≡ before ++ DataCall buf ∷ later

-- how many samples runs tell one by one
abbrev pub samples_of : Run → ℕ
samples_of (run.Bound stamp first number moment fields bits) = number
samples_of (run.Uncertain reason stamp first number moment bits) = number
samples_of (run.Raw reason stamp pad) = 0

abbrev pub samples_in : List Run → ℕ
samples_in [] = 0
samples_in (run ∷ runs) = samples_of run + samples_in runs

-- and how many outputs tell
abbrev pub samples_told : List Out → ℕ
samples_told [] = 0
samples_told (out.Packet buf lost ∷ outs) = samples_told outs
samples_told (out.Run run ∷ outs) = samples_of run + samples_told outs

-- how much a run counts: its samples, or a whole packet as one
abbrev pub counted_of : Run → ℕ
counted_of (run.Bound stamp first number moment fields bits) = number
counted_of (run.Uncertain reason stamp first number moment bits) = number
counted_of (run.Raw reason stamp pad) = 1

abbrev pub counted_in : List Run → ℕ
counted_in [] = 0
counted_in (run ∷ runs) = counted_of run + counted_in runs

-- and how much outputs count
abbrev pub counted_told : List Out → ℕ
counted_told [] = 0
counted_told (out.Packet buf lost ∷ outs) = counted_told outs
counted_told (out.Run run ∷ outs) = counted_of run + counted_told outs

-- how many bytes the payloads have that calls give
abbrev pub payload_bytes : List Call → ℕ
payload_bytes [] = 0
payload_bytes (ContextCall rec ∷ calls) = payload_bytes calls
payload_bytes (DataCall buf ∷ calls) = length (payload_of buf.bytes) + payload_bytes calls
payload_bytes (EndCall ∷ calls) = payload_bytes calls

-- one of the packets that were given, as long as one can be, leaves in runs, which can be written with its payload; they
-- tell no more samples than that has bytes
pub record IsWhole (calls : List Call) (part : Part) : Type 0 where
  pub given : IsGivenIn calls part.buf
  pub size : HasDataSize part.buf.bytes
  pub lost : part.lost ≤ 15
  pub some : part.runs ≢ []
  pub runs : AllByRecursion (IsWritable (length (payload_of part.buf.bytes))) part.runs
  pub few : samples_in part.runs ≤ length (payload_of part.buf.bytes)

-- outputs are packets, one after another, of each of which P is true
pub record AreParts (P : Part → Type 0) (outs : List Out) : Type 0 where
  pub parts : List Part
  pub outs_are : outs ≡ outs_of parts
  pub each : AllByRecursion P parts

-- and each is one that was given
abbrev pub AreWhole : List Call → List Out → Type 0
AreWhole calls outs = AreParts (IsWhole calls) outs

abbrev pub AnyPart : Part → Type 0
AnyPart part = Unit {0}
