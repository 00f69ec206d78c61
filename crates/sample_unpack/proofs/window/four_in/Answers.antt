use Rattle.std.proofs.Common.{◌-◌, ◌*◌, ◌/◌, ◌^◌, ◌∙◌, ap, arith}
use Rattle.std.proofs.lemmas.Nat.{mod_below, pow_pos}
use Rattle.sample_unpack.specs.Bits.{bits_of}
use Rattle.sample_unpack.proofs.Items.{shifted, stretch_in}
use Rattle.sample_unpack.proofs.window.four_in.Goals as goal

pub returns-clause-fits : goal.returns-clause-fits
returns-clause-fits c =
    let size = 4 * c.args.width in
    let low = 64 - size - c.args.offset in
    let e = shifted c.args.window c.args.offset size (64 - size) low (omega arith) (omega arith) in
    rw e (mod_below (c.args.window / 2 ^ low) (2 ^ size) (pow_pos size))

pub returns-clause-items : goal.returns-clause-items
returns-clause-items c =
    let size = 4 * c.args.width in
    let low = 64 - size - c.args.offset in
    ap (bits_of size) (shifted c.args.window c.args.offset size (64 - size) low (omega arith) (omega arith))
    ∙ stretch_in c.args.window c.args.offset size low (omega arith)
