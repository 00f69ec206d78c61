use Rattle.std.proofs.Common.{◌≡◌, ◌+◌, ◌*◌, ◌≤◌, ℕ, List, length, take, drop}
use Rattle.vrt_words.specs.Words.{AreBytes}
use Rattle.replay_form.specs.Numbers.{AreNumbers}
use Rattle.replay_form.proofs.head_writing.put_words.Given as goal

-- the words so far
abbrev pub invariant-loop-i : goal.invariant-loop-i
invariant-loop-i l = record {
  agrees : (bytes : List ℕ) → AreBytes bytes → l.offset + 4 * length l.words ≤ length bytes → AreNumbers l.words l.offset (length l.words) bytes
      → take l.offset l.fn.into ≡ take l.offset bytes → take (l.offset + 4 * l.i) l.into ≡ take (l.offset + 4 * l.i) bytes;
  stays : (n : ℕ) → l.offset + 4 * l.i ≤ n → drop n l.into ≡ drop n l.fn.into;
}
