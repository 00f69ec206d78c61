use Rattle.std.proofs.Common.{◌≡◌}
use Rattle.difi_texts.proofs.tests.words.Given as goal

abbrev pub invariant-loop : goal.invariant-loop
invariant-loop l = l.words ≡ l.counter
