-- All words that the mode word announces are there, or some are missing.
use Rattle.std.proofs.Common.{arith}
use Rattle.vrt_words.proofs.WordLaws.{length-words_of}
use Rattle.command_prologue.proofs.reading.read_named.Goals as goal

pub returns-then-bytes-at-clause-short : goal.returns-then-bytes-at-clause-short
returns-then-bytes-at-clause-short c = let n = length-words_of c.args.bytes.now in (omega arith, omega arith)

pub identity_at-requires-clause-there : goal.identity_at-requires-clause-there
identity_at-requires-clause-there c = let n = length-words_of c.args.bytes.now in omega arith

pub identity_at-requires-2-clause-there : goal.identity_at-requires-2-clause-there
identity_at-requires-2-clause-there c = let n = length-words_of c.args.bytes.now in omega arith
