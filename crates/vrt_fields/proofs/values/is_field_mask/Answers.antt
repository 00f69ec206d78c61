use Rattle.std.proofs.Common.{arith}
use Rattle.vrt_fields.specs.Field.{fields_in_order}
use Rattle.vrt_fields.proofs.Steps.{bits_next, bits_most, all_bits}
use Rattle.vrt_fields.proofs.values.is_field_mask.Goals as goal

pub overflow_add-named : goal.overflow_add-named
overflow_add-named c =
    omega (
      arith,
      bits_next c.loop-index.index c.field_at.result (omega arith) c.field_at.ensures c.args.cif0,
      bits_most c.args.cif0 fields_in_order,
      all_bits,
      c.loop-index.invariant,
    )

pub loop-index-preserved : goal.loop-index-preserved
loop-index-preserved c =
    omega (arith, bits_next c.loop-index.index c.field_at.result (omega arith) c.field_at.ensures c.args.cif0, c.loop-index.invariant)
