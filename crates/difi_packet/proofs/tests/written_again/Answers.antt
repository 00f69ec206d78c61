-- The words that were read spell the packet.
use Rattle.std.proofs.Common.{arith}
use Rattle.vrt_words.specs.Words.{words_of}
use Rattle.vrt_words.proofs.WordLaws.{words_of-words}
use Rattle.difi_packet.proofs.tests.written_again.Goals as goal

pub encode-requires-clause-spelled : goal.encode-requires-clause-spelled
encode-requires-clause-spelled c =
    let bytes = c.args.bytes.now in
    (words_of bytes, words_of-words bytes (λ i. omega (arith, c.type_inv.bytes i)), c.in-Ok.ensures.found.packet)
