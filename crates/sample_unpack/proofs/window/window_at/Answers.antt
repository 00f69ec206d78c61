use Rattle.std.proofs.Common.{◌∙◌, ◌++◌, ap, length, take, replicate, arith}
use Rattle.std.proofs.lemmas.List.{take_rest, length-drop}
use Rattle.byteorder.specs.Endian.{big_from}
use Rattle.sample_unpack.specs.Bits.{bits_of_bytes}
use Rattle.sample_unpack.proofs.Bits.{drop-bits_of_bytes}
use Rattle.sample_unpack.proofs.Items.{window_of_read}
use Rattle.sample_unpack.proofs.window.window_at.Goals as goal

pub returns-then-rest-lt8 : goal.returns-then-rest-lt8
returns-then-rest-lt8 c =
    let payload = c.args.payload.now in
    c.last_window.ensures
    ∙ ap (λ rest. take 64 (bits_of_bytes rest ++ replicate 64 0)) (take_rest payload c.args.at)
    ∙ ap (λ bs. take 64 (bs ++ replicate 64 0)) (drop-bits_of_bytes c.args.at payload)

pub returns : goal.returns
returns c =
    let payload = c.args.payload.now in
    let whole = take_rest payload c.args.at in
    let there = c.if-rest-lt8.false in
    window_of_read payload c.args.at c.read_u64.result (λ k. (c.type_inv.payload k).fits)
    (omega (arith, ap length whole, length-drop c.args.at payload))
    (c.read_u64.ensures ∙ ap (big_from 0 8) whole)
