-- What the packets of one record have in common.
use Rattle.std.specs.Prelude.{ℕ, ◌<◌, ◌≤◌, ◌^◌}

-- the class identifier, and the code of the integer timestamp
pub record PacketProfile : Type 0 where
  pub cid : ℕ
  pub tsi : ℕ

-- an identifier of 24 bits, and UTC, GPS or another time
pub record IsProfile (profile : PacketProfile) : Type 0 where
  pub cid_fits : profile.cid < 2 ^ 24
  pub tsi_from : 1 ≤ profile.tsi
  pub tsi_to : profile.tsi ≤ 3

abbrev pub profile_of : ℕ → ℕ → PacketProfile
profile_of cid tsi = record { cid = cid; tsi = tsi }
