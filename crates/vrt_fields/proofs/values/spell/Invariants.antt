use Rattle.std.proofs.Common.{◌≡◌, ◌+◌, ◌++◌, length, take, drop}
use Rattle.vrt_fields.specs.Field.{fields_in_order}
use Rattle.vrt_fields.specs.FieldSet.{words_with, words_of_set}
use Rattle.vrt_fields.proofs.values.spell.Given as goal

-- the words of the fields in front are written, and those of the others are to come
abbrev pub invariant-loop-index : goal.invariant-loop-index
invariant-loop-index l = record {
  size : length l.into ≡ 19;
  count : l.count + length (words_with (drop l.index fields_in_order) (drop l.index l.values)) ≡ length (words_of_set l.values);
  words : take l.count l.into ++ words_with (drop l.index fields_in_order) (drop l.index l.values) ≡ words_of_set l.values;
}
