-- The prologue of a packet, one line for each of its positions.
use Rattle.std.specs.Prelude.{◌≡◌, ℕ, ◌<◌, ◌^◌, Bool, true, false, List, length, slice_index, Option, Some, None}
use Rattle.vrt_words.specs.Words.{bits}
use Rattle.vrt_time.specs.Time.{TimeStamp, stamp_of, fraction_of}
use Rattle.vrt_header.specs.Profile.{PacketProfile}
use Rattle.vrt_header.specs.Header.{IsHeader, prologue_words}
use Rattle.vrt_header.specs.declared.header.Kind.{Kind}
use Rattle.vrt_header.specs.declared.header.Kind.TheVariants.{Data, Context, Version, Control, Cancel, Ack}
use Rattle.vrt_header.specs.declared.prologue.Prologue.{Prologue}

-- only data packets have pad bits
abbrev pub IsPad : Kind → ℕ → Type 0
IsPad Data pad = Unit {0}
IsPad Context pad = pad ≡ 0
IsPad Version pad = pad ≡ 0
IsPad Control pad = pad ≡ 0
IsPad Cancel pad = pad ≡ 0
IsPad Ack pad = pad ≡ 0

-- the class word: the pad bits, three clear bits, and the class identifier
pub record IsClassWord (profile : PacketProfile) (kind : Kind) (word : ℕ) : Type 0 where
  pub pad : IsPad kind (bits word 27 5)
  pub clear : bits word 24 3 ≡ 0
  pub cid : bits word 0 24 ≡ profile.cid

-- the information class and the packet class, which the command family carries freely
abbrev pub IsClass : Kind → ℕ → ℕ → Type 0
IsClass Data information packet = (information ≡ 0) × (packet ≡ 0)
IsClass Context information packet = (information ≡ 0) × (packet ≡ 1)
IsClass Version information packet = (information ≡ 1) × (packet ≡ 4)
IsClass Control information packet = Unit {0}
IsClass Cancel information packet = Unit {0}
IsClass Ack information packet = Unit {0}

-- integer seconds, and the fraction in two words
abbrev pub IsStamped : Bool → Option TimeStamp → List ℕ → Type 0
IsStamped false stamp words = stamp ≡ None
IsStamped true stamp words =
    (fraction_of (slice_index words 5) (slice_index words 6) < 10 ^ 12)
    × (stamp ≡ Some (stamp_of (slice_index words 4) (fraction_of (slice_index words 5) (slice_index words 6))))

-- these words, and no others, are the prologue
pub record IsPrologue (profile : PacketProfile) (prologue : Prologue) (words : List ℕ) : Type 0 where
  pub all : length words ≡ prologue_words prologue.header.timed
  pub header : IsHeader profile prologue.header (slice_index words 0)
  pub stream : prologue.stream ≡ slice_index words 1
  pub class_word : IsClassWord profile prologue.header.kind (slice_index words 2)
  pub pad : prologue.pad ≡ bits (slice_index words 2) 27 5
  pub class_allowed : IsClass prologue.header.kind prologue.information prologue.packet
  pub information : prologue.information ≡ bits (slice_index words 3) 16 16
  pub packet : prologue.packet ≡ bits (slice_index words 3) 0 16
  pub stamp : IsStamped prologue.header.timed prologue.stamp words

-- they are a prologue of this kind
pub record IsPrologueOf (profile : PacketProfile) (wanted : Kind) (p : Prologue) (words : List ℕ) : Type 0 where
  pub prologue : IsPrologue profile p words
  pub kind : p.header.kind ≡ wanted
