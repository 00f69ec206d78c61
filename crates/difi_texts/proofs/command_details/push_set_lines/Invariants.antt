use Rattle.std.proofs.Common.{◌≡◌, ◌++◌, ◌+◌, ◌*◌, ◌≤◌, length, take}
use Rattle.std.specs.Prelude.{flat_map}
use Rattle.difi_texts.specs.CommandDetails.{set_line}
use Rattle.difi_texts.proofs.command_details.push_set_lines.Given as goal

-- the lines of the fields in front are there
abbrev pub invariant-loop-field : goal.invariant-loop-field
invariant-loop-field l = record {
  text : l.out ≡ l.fn.out ++ flat_map (set_line l.set) (take l.field-index l.fields);
  room : length l.out ≤ length l.fn.out + 83 * l.field-index;
}
