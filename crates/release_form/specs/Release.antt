-- Release records: what one says, with its variable part, and the record of a value with a payload or a packet.
use Rattle.std.specs.Prelude.{◌≡◌, ℕ, ◌+◌, ◌≤◌, List, [], ◌++◌, length, take, drop}
use Rattle.vrt_words.specs.Words.{AreBytes}
use Rattle.sample_unpack.specs.Bits.{bits_of_bytes}
use Rattle.sample_unpack.specs.Samples.{bits_of_samples, samples_from}
use Rattle.sample_binder.specs.declared.out.Run.{Run}
use Rattle.sample_binder.specs.declared.out.Run.TheVariants.{Bound, Uncertain, Raw}
use Rattle.release_form.specs.Positions.{word}
use Rattle.release_form.specs.Rules.{Obeys}
use Rattle.release_form.specs.Layout.{IsLaidOut, kind_of, front_of}
use Rattle.release_form.specs.Sizes.{HasLength, size_with}
use Rattle.release_form.specs.declared.shown.Shown.{Shown}
use Rattle.release_form.specs.declared.shown.Shown.TheVariants.{Run as ARun, Ack, Refused, Version, End}

-- these bytes, and no others, are a release record that says this and has this variable part
pub record IsRelease (shown : Shown) (part bytes : List ℕ) : Type 0 where
  pub kind_is : word bytes 0 ≡ kind_of shown
  -- the length does not count itself and the kind
  pub length_is : word bytes 1 + 8 ≡ length bytes
  pub positions : IsLaidOut shown bytes
  pub obeys : Obeys shown
  -- the variable part is all that stands behind
  pub part_is : part ≡ drop (front_of shown) bytes
  pub whole : length bytes ≡ front_of shown + length part
  pub part_length : HasLength shown (length part)

-- such a record, of so many bytes, stands first
pub record StandsFirst (shown : Shown) (part : List ℕ) (size : ℕ) (bytes : List ℕ) : Type 0 where
  pub within : size ≤ length bytes
  pub release : IsRelease shown part (take size bytes)

-- what a value says when its record is read: its samples have 16 bits
abbrev pub read_run : Run → Run
read_run (Bound stamp first number moment fields bits) = Bound stamp first number moment fields 16
read_run (Uncertain reason stamp first number moment bits) = Uncertain reason stamp first number moment 16
read_run (Raw reason stamp pad) = Raw reason stamp pad

abbrev pub as_read : Shown → Shown
as_read (ARun stream port lost run) = ARun stream port lost (read_run run)
as_read (Ack port) = Ack port
as_read (Refused frame port reason detail stamp) = Refused frame port reason detail stamp
as_read (Version port) = Version port
as_read (End counts) = End counts

-- the samples first, first + 1 and so on of a payload whose items have so many bits, as items of 16 bits, I before Q
abbrev pub AreSamples : ℕ → ℕ → ℕ → List ℕ → List ℕ → Type 0
AreSamples bits first number payload part =
    bits_of_bytes part ≡ bits_of_samples 16 (samples_from bits (bits_of_bytes payload) first number)

-- the variable part that a value has with a payload or a packet
abbrev pub IsPartOfRun : Run → List ℕ → List ℕ → Type 0
IsPartOfRun (Bound stamp first number moment fields bits) payload part = AreSamples bits first number payload part
IsPartOfRun (Uncertain reason stamp first number moment bits) payload part = AreSamples bits first number payload part
IsPartOfRun (Raw reason stamp pad) payload part = part ≡ payload

abbrev pub IsPartOf : Shown → List ℕ → List ℕ → Type 0
IsPartOf (ARun stream port lost run) payload part = IsPartOfRun run payload part
IsPartOf (Ack port) packet part = part ≡ packet
IsPartOf (Refused frame port reason detail stamp) packet part = part ≡ []
IsPartOf (Version port) packet part = part ≡ packet
IsPartOf (End counts) packet part = part ≡ []

-- the record of a value with a payload or a packet
pub record IsRecordOf (shown : Shown) (payload bytes : List ℕ) : Type 0 where
  pub part : List ℕ
  pub part_is : IsPartOf shown payload part
  pub release : IsRelease (as_read shown) part bytes

-- so many bytes, of which this is true, stand behind those before
pub record IsBehind (Is : List ℕ → Type 0) (size : ℕ) (before after : List ℕ) : Type 0 where
  pub bytes : List ℕ
  pub fit : AreBytes bytes
  pub size_is : length bytes ≡ size
  pub behind : after ≡ before ++ bytes
  pub is : Is bytes

-- the record of a value with a payload or a packet does
abbrev pub IsPushed : Shown → List ℕ → List ℕ → List ℕ → Type 0
IsPushed shown payload before after = IsBehind (IsRecordOf shown payload) (size_with shown (length payload)) before after
