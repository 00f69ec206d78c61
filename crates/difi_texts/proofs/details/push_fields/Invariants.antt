use Rattle.std.proofs.Common.{◌≡◌, ◌++◌, ◌+◌, ◌*◌, ◌≤◌, length, take}
use Rattle.std.specs.Prelude.{flat_map}
use Rattle.difi_texts.specs.Details.{field_line}
use Rattle.difi_texts.proofs.details.push_fields.Given as goal

-- the lines of the fields in front are there
abbrev pub invariant-loop-field : goal.invariant-loop-field
invariant-loop-field l = record {
  text : l.out ≡ l.fn.out ++ flat_map (field_line l.rec) (take l.field-index l.fields);
  room : length l.out ≤ length l.fn.out + 83 * l.field-index;
}
