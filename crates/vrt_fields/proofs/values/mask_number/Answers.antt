use Rattle.std.proofs.Common.{arith}
use Rattle.vrt_fields.proofs.Steps.{number_next, number_end}
use Rattle.vrt_fields.proofs.values.mask_number.Goals as goal

pub loop-index-preserved : goal.loop-index-preserved
loop-index-preserved c =
    let next = number_next c.loop-index.index c.field_at.result (omega arith) c.field_at.ensures c.args.cif0 in
    (omega (arith, c.loop-index.invariant), omega (arith, next, c.loop-index.invariant))

pub returns-clause-number : goal.returns-clause-number
returns-clause-number c = omega (arith, number_end c.args.cif0 c.loop-index.index (omega arith), c.loop-index.invariant)
