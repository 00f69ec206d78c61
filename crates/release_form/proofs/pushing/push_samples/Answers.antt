use Rattle.std.proofs.Common.{◌+◌, ◌-◌, ◌*◌, arith}
use Rattle.release_form.proofs.Pushed.{copied_behind}
use Rattle.release_form.proofs.pushing.push_samples.Goals as goal

pub returns-then-bits-eq16 : goal.returns-then-bits-eq16
returns-then-bits-eq16 c =
    copied_behind c.args.bits c.args.first c.args.number (4 * c.args.first + 4 * c.args.number - 4 * c.args.first) c.args.payload.now c.args.out.now c.push.new.out
    c.if-bits-eq16.true c.requires.run.within c.requires.indices.some (omega arith) c.push.ensures.behind c.push.ensures.fit
