-- The samples of a packet whose first sample has a context: how many they are, and when each was captured.
use Rattle.std.specs.Prelude.{ℕ, ◌-◌, ◌*◌, ◌/◌, ◌%◌, ◌==◌, ◌&&◌, nat_lt, if◌then◌else◌, List, Option, Some, None}
use Rattle.vrt_time.specs.Time.{capture_at}
pub use Rattle.vrt_fields.specs.FieldWords.{rate_in, size_in}
use Rattle.sample_binder.specs.declared.sampling.Shape.{Shape}

-- the bits of a payload that are used
abbrev pub used_bits : Shape → ℕ
used_bits shape = 32 * shape.words - shape.pad

-- how many samples of two items they are, where they divide into such samples and there is one
abbrev pub number_of : Shape → ℕ → Option ℕ
number_of shape bits =
    if nat_lt 0 (used_bits shape) && used_bits shape % (2 * bits) == 0 then Some (used_bits shape / (2 * bits)) else None

-- when a sample was captured
abbrev pub captured : Shape → List ℕ → ℕ → ℕ
captured shape fields m = capture_at shape.stamp m (rate_in fields)
