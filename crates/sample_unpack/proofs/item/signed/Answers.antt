use Rattle.std.proofs.Common.{◌-◌, arith}
use Rattle.std.proofs.lemmas.Int.{ints}
use Rattle.sample_unpack.proofs.Items.{signs}
use Rattle.sample_unpack.proofs.item.signed.Goals as goal

pub overflow_cast-result : goal.overflow_cast-result
overflow_cast-result c =
    let s = signs (c.args.width - 1) c.args.width c.args.item (omega arith) (omega arith) c.requires.fits in
    omega (arith, ints)

pub overflow_sub-result : goal.overflow_sub-result
overflow_sub-result c =
    let s = signs (c.args.width - 1) c.args.width c.args.item (omega arith) (omega arith) c.requires.fits in
    omega (arith, ints)

pub overflow_cast-result-3 : goal.overflow_cast-result-3
overflow_cast-result-3 c =
    let s = signs (c.args.width - 1) c.args.width c.args.item (omega arith) (omega arith) c.requires.fits in
    omega (arith, ints)

pub returns : goal.returns
returns c =
    let s = signs (c.args.width - 1) c.args.width c.args.item (omega arith) (omega arith) c.requires.fits in
    omega (arith, ints)
