use Rattle.std.proofs.Common.{◌≡◌, ◌++◌, ◌+◌, ◌*◌, ◌≤◌, length, take}
use Rattle.std.specs.Prelude.{flat_map}
use Rattle.difi_texts.specs.CommandDetails.{spaced}
use Rattle.difi_texts.proofs.command_details.push_uuid.Given as goal

-- the words in front are there
abbrev pub invariant-loop-word : goal.invariant-loop-word
invariant-loop-word l = record {
  text : l.out ≡ l.fn.out ++ flat_map spaced (take l.word-index l.words);
  room : length l.out ≤ length l.fn.out + 9 * l.word-index;
}
