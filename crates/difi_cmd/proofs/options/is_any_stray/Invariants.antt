use Rattle.std.proofs.Common.{◌≡◌, false, string_bytes, take}
use Rattle.std.specs.List.{list_any}
use Rattle.difi_cmd.specs.LineOfWords.{is_stray}
use Rattle.difi_cmd.proofs.options.is_any_stray.Given as goal

abbrev pub invariant-loop-word : goal.invariant-loop-word
invariant-loop-word l = list_any (λ word. is_stray (string_bytes word)) (take l.word-index l.words) ≡ false
