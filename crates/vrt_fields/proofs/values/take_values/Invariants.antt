use Rattle.std.proofs.Common.{◌≡◌, ◌*◌, ◌≤◌, ◌++◌, length, take, drop, sum_by}
use Rattle.vrt_fields.specs.Field.{width_of, fields_in_order}
use Rattle.vrt_fields.specs.FieldSet.{bit_in}
use Rattle.vrt_fields.specs.Values.{values_in}
use Rattle.vrt_fields.proofs.values.take_values.Given as goal

-- the values of the fields in front are there, and those of the others stand in the rest of the words
abbrev pub invariant-loop-index : goal.invariant-loop-index
invariant-loop-index l = record {
  size : length l.values ≡ 12;
  room : sum_by (λ f. bit_in l.cif0 f * width_of f) (drop l.index fields_in_order) ≤ length l.rest;
  values : take l.index l.values ++ values_in l.cif0 (drop l.index fields_in_order) l.rest ≡ values_in l.cif0 fields_in_order l.words;
}
