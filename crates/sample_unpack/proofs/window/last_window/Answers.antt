use Rattle.std.proofs.Common.{◌≡◌, ◌++◌, ◌∙◌, ap, length, drop, replicate, arith}
use Rattle.byteorder.specs.Endian.{big_from}
use Rattle.sample_unpack.proofs.Items.{window_of_last}
use Rattle.sample_unpack.proofs.window.last_window.Goals as goal

pub returns : goal.returns
returns c =
    let rest = c.args.rest.now in
    let read : c.read_u64.result ≡ big_from 0 8 (c.copy_from_slice.new.self ++ drop (length rest) (replicate 8 0)) = c.read_u64.ensures in
    window_of_last rest c.read_u64.result (λ k. (c.type_inv.rest k).fits) (omega arith)
    (read ∙ ap (λ bs. big_from 0 8 (bs ++ drop (length rest) (replicate 8 0))) c.copy_from_slice.ensures.after)
