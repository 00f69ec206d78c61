use Rattle.std.proofs.Common.{◌≡◌, ◌+◌, ◌*◌, ◌/◌, ◌%◌, ◌++◌, ◌∙◌, ap, take, drop, replicate, arith}
use Rattle.std.proofs.lemmas.List.{take_rest}
use Rattle.byteorder.specs.Endian.{big_from}
use Rattle.sample_unpack.specs.Bits.{bits_of, bits_of_bytes}
use Rattle.sample_unpack.proofs.Bits.{length-bits_of_bytes}
use Rattle.sample_unpack.proofs.Items.{window_of_read}
use Rattle.sample_unpack.proofs.Samples.{sample_in_window}
use Rattle.sample_unpack.proofs.window.sample_behind.Goals as goal

pub returns : goal.returns
returns c =
    let payload = c.args.payload.now in
    let bits = bits_of_bytes payload in
    let bit = c.args.bit in
    let place = c.args.at + bit / 8 in
    let window : bits_of 64 c.read_u64-window.result ≡ take 64 (drop (8 * place) bits ++ replicate 64 0) =
    window_of_read payload place c.read_u64-window.result (λ k. (c.type_inv.payload k).fits) (omega arith)
    (c.read_u64-window.ensures ∙ ap (big_from 0 8) (take_rest payload place)) in
    c.sample_from.ensures
    ∙ sample_in_window c.args.width bits c.read_u64-window.result c.items_in.result (8 * place) (bit % 8) (8 * c.args.at + bit)
    (omega arith) (omega (arith, length-bits_of_bytes payload)) (omega arith) window c.items_in.ensures.items
