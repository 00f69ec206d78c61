use Rattle.std.proofs.Common.{◌≡◌, ◌+◌, ◌*◌, ◌/◌, ◌%◌, ◌++◌, ◌∙◌, ap, take, drop, replicate, arith}
use Rattle.std.proofs.lemmas.List.{take_rest}
use Rattle.byteorder.specs.Endian.{big_from}
use Rattle.sample_unpack.specs.Bits.{bits_of, bits_of_bytes}
use Rattle.sample_unpack.specs.Samples.{bits_of_samples, samples_from}
use Rattle.sample_unpack.proofs.Bits.{length-bits_of_bytes}
use Rattle.sample_unpack.proofs.Items.{window_of_read, window_stretch}
use Rattle.sample_unpack.proofs.Samples.{two_samples-take}
use Rattle.sample_unpack.proofs.wide.two_at.Goals as goal

pub returns : goal.returns
returns c =
    let payload = c.args.payload.now in
    let bits = bits_of_bytes payload in
    let bit = c.args.bit in
    let w = c.args.width in
    let place = c.args.at + bit / 8 in
    let window : bits_of 64 c.read_u64-window.result ≡ take 64 (drop (8 * place) bits ++ replicate 64 0) =
    window_of_read payload place c.read_u64-window.result (λ k. (c.type_inv.payload k).fits) (omega arith)
    (c.read_u64-window.ensures ∙ ap (big_from 0 8) (take_rest payload place)) in
    let items : bits_of (4 * w) c.four_in.result ≡ take (4 * w) (drop (8 * place + bit % 8) bits) =
    c.four_in.ensures.items
    ∙ window_stretch bits c.read_u64-window.result (8 * place) (bit % 8) (4 * w) c.requires.window (omega (arith, length-bits_of_bytes payload)) window in
    let same : 8 * place + bit % 8 ≡ 8 * c.args.at + bit = omega arith in
    c.widened.ensures
    ∙ ap (λ bs. bits_of_samples 16 (samples_from w bs 0 2)) items
    ∙ ap (bits_of_samples 16) (two_samples-take w (drop (8 * place + bit % 8) bits))
    ∙ ap (λ n. bits_of_samples 16 (samples_from w (drop n bits) 0 2)) same
