use Rattle.std.proofs.Common.{◌≡◌, sym, subst, arith}
use Rattle.vrt_fields.specs.Field.{fields_in_order}
use Rattle.vrt_fields.specs.FieldSet.{mask_of, IsFieldMask}
use Rattle.vrt_fields.proofs.FieldSetLaws.{mask_is_of_fields}
use Rattle.vrt_fields.proofs.Steps.{mask_next, mask_most, all_bits, mask_end}
use Rattle.vrt_fields.proofs.values.mask.Goals as goal

pub overflow_add-mask : goal.overflow_add-mask
overflow_add-mask c =
    omega (
      arith,
      mask_next c.loop-index.index c.field_at.result (omega arith) c.field_at.ensures c.args.values.now (omega arith),
      mask_most fields_in_order c.args.values.now,
      all_bits,
      c.loop-index.invariant,
    )

pub loop-index-preserved : goal.loop-index-preserved
loop-index-preserved c =
    omega (arith, mask_next c.loop-index.index c.field_at.result (omega arith) c.field_at.ensures c.args.values.now (omega arith), c.loop-index.invariant)

pub returns-clause-only : goal.returns-clause-only
returns-clause-only c =
    let whole : c.loop-index.mask ≡ mask_of c.args.values.now = omega (arith, mask_end c.loop-index.index c.args.values.now (omega arith), c.loop-index.invariant) in
    subst IsFieldMask (sym whole) (mask_is_of_fields c.args.values.now c.requires)
