-- The words that were read spell the packet.
use Rattle.std.proofs.Common.{arith}
use Rattle.vrt_words.specs.Words.{words_of}
use Rattle.vrt_words.proofs.WordLaws.{words_of-words}
use Rattle.command_codec.proofs.tests.cancel.written_again.Goals as goal

pub encode_cancel-requires-clause-spelled : goal.encode_cancel-requires-clause-spelled
encode_cancel-requires-clause-spelled c =
    let bytes = c.args.bytes.now in
    (words_of bytes, record { are_words = words_of-words bytes (λ i. omega (arith, c.type_inv.bytes i)); told = c.in-Ok.ensures.found.packet })
