-- How much the binder of a stream may be opened to keep.
use Rattle.std.specs.Prelude.{◌≤◌}
use Rattle.vrt_fields.specs.declared.limits.Limits.{Limits}

-- the limits that a binder can have
pub record AreLimits (limits : Limits) : Type 0 where
  pub data_window : limits.data_window ≤ 4096
  pub context_window : limits.context_window ≤ 4096
  pub least_kept : 2 ≤ limits.kept
  pub most_kept : limits.kept ≤ 4096
  pub least_pending : 1 ≤ limits.pending
  pub most_pending : limits.pending ≤ 1048576
