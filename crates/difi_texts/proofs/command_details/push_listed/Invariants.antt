use Rattle.std.proofs.Common.{◌≡◌, ◌++◌, ◌+◌, ◌*◌, ◌≤◌, length, take}
use Rattle.std.specs.Prelude.{flat_map}
use Rattle.vrt_fields.specs.Field.{fields_in_order}
use Rattle.difi_texts.specs.CommandDetails.{response_line}
use Rattle.difi_texts.proofs.command_details.push_listed.Given as goal

-- the lines of the fields in front are there
abbrev pub invariant-loop-index : goal.invariant-loop-index
invariant-loop-index l = record {
  text : l.out ≡ l.fn.out ++ flat_map (response_line l.responses) (take l.index fields_in_order);
  room : length l.out ≤ length l.fn.out + 20 * l.index;
}
