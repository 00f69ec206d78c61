use Rattle.std.proofs.Common.{ℕ, arith}
use Rattle.std.proofs.lemmas.List.{length-take}
use Rattle.vrt_words.proofs.WordLaws.{length-words_of}
use Rattle.ack_codec.proofs.listing.read_responses.Goals as goal

pub read_words-requires : goal.read_words-requires
read_words-requires c =
    omega (arith, length-words_of c.args.bytes.now, c.requires.there, c.mask_number-listed.ensures.number, length-take {A = ℕ})
