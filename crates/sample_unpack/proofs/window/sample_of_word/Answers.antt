use Rattle.std.proofs.Common.{◌*◌, ◌∙◌, ap, arith}
use Rattle.std.proofs.lemmas.List.{take_rest}
use Rattle.byteorder.specs.Endian.{big_from}
use Rattle.sample_unpack.specs.Bits.{bits_of}
use Rattle.sample_unpack.specs.Samples.{sample_of}
use Rattle.sample_unpack.proofs.Samples.{sample_in_bytes}
use Rattle.sample_unpack.proofs.window.sample_of_word.Goals as goal

pub returns : goal.returns
returns c =
    let payload = c.args.payload.now in
    c.sample_from.ensures
    ∙ ap (λ n. sample_of 16 (bits_of (2 * 16) n)) (c.read_u32.ensures ∙ ap (big_from 0 4) (take_rest payload c.args.at))
    ∙ sample_in_bytes 16 4 c.args.at payload (omega arith) (λ k. (c.type_inv.payload k).fits) c.requires
