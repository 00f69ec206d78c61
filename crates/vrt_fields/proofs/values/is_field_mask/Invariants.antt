use Rattle.std.proofs.Common.{◌≡◌, ◌+◌, ◌*◌, ◌^◌, drop, sum_by}
use Rattle.vrt_fields.specs.Field.{bit_of, fields_in_order}
use Rattle.vrt_fields.specs.FieldSet.{bit_in}
use Rattle.vrt_fields.proofs.values.is_field_mask.Given as goal

-- the bits of the fields in front are there, and those of the others are to come
abbrev pub invariant-loop-index : goal.invariant-loop-index
invariant-loop-index l =
    l.named + sum_by (λ f. bit_in l.cif0 f * 2 ^ bit_of f) (drop l.index fields_in_order) ≡ sum_by (λ f. bit_in l.cif0 f * 2 ^ bit_of f) fields_in_order
