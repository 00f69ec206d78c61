use Rattle.std.proofs.Common.{arith}
use Rattle.vrt_fields.specs.Field.{fields_in_order}
use Rattle.vrt_fields.proofs.Steps.{width_next, width_most, all_widths, width_end}
use Rattle.vrt_fields.proofs.values.mask_width.Goals as goal

pub overflow_add-width : goal.overflow_add-width
overflow_add-width c =
    omega (
      arith,
      width_next c.loop-index.index c.field_at.result (omega arith) c.field_at.ensures c.args.cif0,
      width_most c.args.cif0 fields_in_order,
      all_widths,
      c.loop-index.invariant,
    )

pub loop-index-preserved : goal.loop-index-preserved
loop-index-preserved c =
    omega (arith, width_next c.loop-index.index c.field_at.result (omega arith) c.field_at.ensures c.args.cif0, c.loop-index.invariant)

pub returns-clause-most : goal.returns-clause-most
returns-clause-most c =
    omega (arith, width_most c.args.cif0 fields_in_order, all_widths, width_end c.args.cif0 c.loop-index.index (omega arith), c.loop-index.invariant)

pub returns-clause-number : goal.returns-clause-number
returns-clause-number c =
    omega (arith, width_end c.args.cif0 c.loop-index.index (omega arith), c.loop-index.invariant)
