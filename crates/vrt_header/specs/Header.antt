-- The header word, one line for each of its fields, and the table of kinds.
use Rattle.std.specs.Prelude.{◌≡◌, ℕ, ◌+◌, ◌==◌, ◌&&◌, nat_le, Bool, true, false, [], ◌∷◌}
use Rattle.std.specs.List.{list_any}
use Rattle.vrt_words.specs.Words.{bits}
use Rattle.vrt_header.specs.Profile.{PacketProfile}
use Rattle.vrt_header.specs.declared.header.Kind.{Kind}
use Rattle.vrt_header.specs.declared.header.Kind.TheVariants.{Data, Context, Version, Control, Cancel, Ack}
use Rattle.vrt_header.specs.declared.header.Header.{Header}

-- the packet type, bits 31 to 28
abbrev pub type_of : Kind → ℕ
type_of Data = 1
type_of Context = 4
type_of Version = 5
type_of Control = 6
type_of Cancel = 6
type_of Ack = 6

-- the packets of the command family
abbrev pub is_command : Kind → Bool
is_command Data = false
is_command Context = false
is_command Version = false
is_command Control = true
is_command Cancel = true
is_command Ack = true

-- bit 26 is set in acknowledgements alone
abbrev pub acknowledge_of : Kind → ℕ
acknowledge_of Data = 0
acknowledge_of Context = 0
acknowledge_of Version = 0
acknowledge_of Control = 0
acknowledge_of Cancel = 0
acknowledge_of Ack = 1

-- bit 25 is clear in the command family, and free in the others
abbrev pub IsBit25 : Kind → ℕ → Type 0
IsBit25 Data bit = Unit {0}
IsBit25 Context bit = Unit {0}
IsBit25 Version bit = Unit {0}
IsBit25 Control bit = bit ≡ 0
IsBit25 Cancel bit = bit ≡ 0
IsBit25 Ack bit = bit ≡ 0

-- bit 24 tells commands from cancellations, is clear in data, and free in the others
abbrev pub IsBit24 : Kind → ℕ → Type 0
IsBit24 Data bit = bit ≡ 0
IsBit24 Context bit = Unit {0}
IsBit24 Version bit = Unit {0}
IsBit24 Control bit = bit ≡ 0
IsBit24 Cancel bit = bit ≡ 1
IsBit24 Ack bit = Unit {0}

-- the packet type and the bits that are fixed for the kind
pub record IsKind (kind : Kind) (word : ℕ) : Type 0 where
  pub packet_type : bits word 28 4 ≡ type_of kind
  pub acknowledge : bits word 26 1 ≡ acknowledge_of kind
  pub bit25 : IsBit25 kind (bits word 25 1)
  pub bit24 : IsBit24 kind (bits word 24 1)

-- the codes of the timestamps: this integer one with a fraction in picoseconds, or, in the command
-- family alone, none at all
abbrev pub IsTimed : ℕ → Kind → Bool → ℕ → Type 0
IsTimed tsi kind true word = (bits word 22 2 ≡ tsi) × (bits word 20 2 ≡ 2)
IsTimed tsi kind false word = (is_command kind ≡ true) × (bits word 22 2 ≡ 0) × (bits word 20 2 ≡ 0)

-- the words of a prologue
abbrev pub prologue_words : Bool → ℕ
prologue_words true = 7
prologue_words false = 4

-- the sizes that a packet of the kind can have, in words. A cancellation has three words behind its
-- prologue, and up to two identities of one or four words.
abbrev pub is_size : Kind → Bool → ℕ → Bool
is_size Data timed size = nat_le 8 size && nat_le size 16376
is_size Context timed size = size == 27
is_size Version timed size = size == 11
is_size Control timed size = nat_le (prologue_words timed + 3) size && nat_le size (prologue_words timed + 30)
is_size Cancel timed size = list_any (λ identities. size == prologue_words timed + 3 + identities) (0 ∷ 1 ∷ 2 ∷ 4 ∷ 5 ∷ 8 ∷ [])
is_size Ack timed size = nat_le (prologue_words timed + 2) size && nat_le size (prologue_words timed + 36)

-- the header that the word spells
pub record IsHeader (profile : PacketProfile) (header : Header) (word : ℕ) : Type 0 where
  pub kind : IsKind header.kind word
  pub class_there : bits word 27 1 ≡ 1
  pub bit25 : header.bit25 ≡ (bits word 25 1 == 1)
  pub bit24 : header.bit24 ≡ (bits word 24 1 == 1)
  pub time : IsTimed profile.tsi header.kind header.timed word
  pub count : header.count ≡ bits word 16 4
  pub size : header.size ≡ bits word 0 16
  pub size_allowed : is_size header.kind header.timed header.size ≡ true
