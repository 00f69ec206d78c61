use Rattle.std.proofs.Common.{◌≡◌, ◌+◌, drop}
use Rattle.vrt_fields.specs.Field.{fields_in_order}
use Rattle.vrt_fields.specs.FieldSet.{mask_with, mask_of}
use Rattle.vrt_fields.proofs.values.mask.Given as goal

-- the bits of the fields in front are there, and those of the others are to come
abbrev pub invariant-loop-index : goal.invariant-loop-index
invariant-loop-index l = l.mask + mask_with (drop l.index fields_in_order) (drop l.index l.values) ≡ mask_of l.values
