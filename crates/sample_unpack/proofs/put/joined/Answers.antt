use Rattle.std.proofs.Common.{arith}
use Rattle.sample_unpack.proofs.Packed.{joins}
use Rattle.sample_unpack.proofs.put.joined.Goals as goal

pub returns-clause-fits : goal.returns-clause-fits
returns-clause-fits c =
    let j = joins c.args.held c.args.size 64 c.args.waiting c.args.items (omega arith) c.requires.waiting_fits c.requires.items_fit in
    let e = c.from.ensures in
    rw (e, j.value) j.fits

pub returns-clause-joined : goal.returns-clause-joined
returns-clause-joined c =
    let j = joins c.args.held c.args.size 64 c.args.waiting c.args.items (omega arith) c.requires.waiting_fits c.requires.items_fit in
    let e = c.from.ensures in
    rw (e, j.value) j.joined
