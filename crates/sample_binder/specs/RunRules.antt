-- What holds of the values of each run, and of the payload of its packet, so that it can be written.
use Rattle.std.specs.Prelude.{◌≡◌, ◌≢◌, ℕ, ◌+◌, ◌%◌, ◌<◌, ◌≤◌, ◌^◌, List}
use Rattle.vrt_time.specs.Time.{TimeStamp, capture_at}
use Rattle.vrt_fields.specs.FieldWords.{AreFields, field_of}
use Rattle.vrt_fields.specs.declared.field.Field.TheVariants.{SampleRate}
use Rattle.sample_unpack.specs.Samples.{LieWithin}
use Rattle.sample_binder.specs.declared.reason.Reason.{Reason}
use Rattle.sample_binder.specs.declared.out.Run.{Run}
use Rattle.sample_binder.specs.declared.out.Run.TheVariants.{Bound, Uncertain, Raw}
use Rattle.sample_binder.specs.Reasons.{number_of, IsInTable}

-- there is a sample, and the indices of all are numbers of 32 bits
pub record AreIndices (first number : ℕ) : Type 0 where
  pub some : 1 ≤ number
  pub within : first + number ≤ 2 ^ 32

-- the first sample was captured when the fields' rate says
pub record ObeysBound (stamp : TimeStamp) (first number moment : ℕ) (fields : List ℕ) : Type 0 where
  pub indices : AreIndices first number
  pub are_fields : AreFields fields
  pub captured : moment ≡ capture_at stamp first (field_of fields SampleRate)

-- samples that are cut out have no reason that concerns a whole packet
pub record ObeysUncertain (reason : Reason) (first number : ℕ) : Type 0 where
  pub indices : AreIndices first number
  pub in_table : IsInTable reason
  pub least : 2 ≤ number_of reason
  pub most : number_of reason ≤ 6

-- the format changes within a packet alone
pub record ObeysRaw (reason : Reason) (pad : ℕ) : Type 0 where
  pub in_table : IsInTable reason
  pub whole_packet : number_of reason ≢ 6
  pub pad_most : pad ≤ 31

abbrev pub ObeysRun : Run → Type 0
ObeysRun (Bound stamp first number moment fields bits) = ObeysBound stamp first number moment fields
ObeysRun (Uncertain reason stamp first number moment bits) = ObeysUncertain reason first number
ObeysRun (Raw reason stamp pad) = ObeysRaw reason pad

-- whole words, and one at least
pub record AreWholeWords (bytes : ℕ) : Type 0 where
  pub some : 0 < bytes
  pub whole : bytes % 4 ≡ 0

-- the samples of a run lie in so many bytes of payload, with items of 4 to 16 bits
pub record HoldsRun (bits first number payload : ℕ) : Type 0 where
  pub least_bits : 4 ≤ bits
  pub most_bits : bits ≤ 16
  pub within : LieWithin bits first number payload

-- so many bytes of payload go with a run: its samples lie in them, or they are its payload
abbrev pub GoesWithRun : Run → ℕ → Type 0
GoesWithRun (Bound stamp first number moment fields bits) payload = HoldsRun bits first number payload
GoesWithRun (Uncertain reason stamp first number moment bits) payload = HoldsRun bits first number payload
GoesWithRun (Raw reason stamp pad) payload = AreWholeWords payload

-- it obeys its rules, and so many bytes of payload go with it
pub record IsWritable (payload : ℕ) (run : Run) : Type 0 where
  pub obeys : ObeysRun run
  pub goes : GoesWithRun run payload
