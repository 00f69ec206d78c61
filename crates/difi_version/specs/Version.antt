-- Version packets, one line for each position of their words.
use Rattle.std.specs.Prelude.{◌≡◌, ℕ, ◌==◌, List, length, take, slice_index}
use Rattle.vrt_words.specs.Words.{bits}
use Rattle.vrt_header.specs.Profile.{PacketProfile}
use Rattle.vrt_header.specs.Prologue.{IsPrologueOf}
use Rattle.vrt_header.specs.declared.header.Kind.TheVariants.{Version}
use Rattle.difi_version.specs.declared.version.VersionRec.{VersionRec}

-- CIF0 without its change bit: CIF1 follows (bit 1), and no field of CIF0
abbrev pub cif1_follows : ℕ
cif1_follows = 2

-- CIF1: the specification version (bit 3) and the version word (bit 2), and nothing else
abbrev pub versions_bits : ℕ
versions_bits = 12

-- these words, and no others, are a version packet
pub record IsVersion (profile : PacketProfile) (rec : VersionRec) (words : List ℕ) : Type 0 where
  pub all : length words ≡ 11
  pub prologue : IsPrologueOf profile Version rec.prologue (take 7 words)
  pub changed : rec.changed ≡ (bits (slice_index words 7) 31 1 == 1)
  pub cif0 : bits (slice_index words 7) 0 31 ≡ cif1_follows
  pub cif1 : slice_index words 8 ≡ versions_bits
  pub spec : rec.spec ≡ slice_index words 9
  pub version : rec.version ≡ slice_index words 10
