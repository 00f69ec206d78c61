-- Context packets, one line for each position of their words.
use Rattle.std.specs.Prelude.{◌≡◌, ℕ, ◌==◌, Bool, true, false, List, length, take, drop, slice_index}
use Rattle.vrt_words.specs.Words.{bits, AreWords}
use Rattle.vrt_header.specs.Profile.{PacketProfile}
use Rattle.vrt_header.specs.Prologue.{IsPrologueOf}
use Rattle.vrt_header.specs.declared.header.Kind.TheVariants.{Context}
use Rattle.vrt_fields.specs.Format.{IsFormatFirst, IsFormatSecond}
pub use Rattle.vrt_fields.specs.FieldWords.{IsRate, field_of}
use Rattle.difi_context.specs.declared.context.ContextRec.{ContextRec}

-- CIF0 without its change bit: the twelve fields, and no other
abbrev pub fields_bits : ℕ
fields_bits = 0x7BB98000

-- CIF0 with its change bit
abbrev pub cif0_of : Bool → ℕ
cif0_of true = 0xFBB98000
cif0_of false = 0x7BB98000

-- these words, and no others, are a context packet
pub record IsContext (profile : PacketProfile) (rec : ContextRec) (words : List ℕ) : Type 0 where
  pub all : length words ≡ 27
  pub prologue : IsPrologueOf profile Context rec.prologue (take 7 words)
  pub changed : rec.changed ≡ (bits (slice_index words 7) 31 1 == 1)
  pub cif0 : bits (slice_index words 7) 0 31 ≡ fields_bits
  pub fields : rec.fields ≡ drop 8 words
  pub rate : IsRate (slice_index words 19) (slice_index words 20)
  pub format_first : IsFormatFirst (slice_index words 25)
  pub format_second : IsFormatSecond (slice_index words 26)

-- the context of some packet under this profile
pub record IsSpelled (profile : PacketProfile) (rec : ContextRec) : Type 0 where
  pub words : List ℕ
  pub are_words : AreWords words
  pub packet : IsContext profile rec words

-- the context of some packet
pub record IsInGrammar (rec : ContextRec) : Type 0 where
  pub profile : PacketProfile
  pub spelled : IsSpelled profile rec
