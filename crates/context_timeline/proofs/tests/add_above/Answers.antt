use Rattle.std.proofs.Common.{◌<◌, Option, IfSome, sym, subst, rules}
use Rattle.vrt_time.specs.Time.{TimeStamp, moment_of}
use Rattle.context_timeline.specs.State.{stamp_in}
use Rattle.context_timeline.proofs.tests.add_above.Goals as goal

-- the stamp that was compared is the one that the context's prologue holds
pub add-requires-clause-later : goal.add-requires-clause-later
add-requires-clause-later c =
    let horizon : TimeStamp = c.in-Some.horizon in
    let rec = c.args.rec.now in
    let above : moment_of horizon < moment_of c.stamp.result = search rules in
    subst (λ (o : Option TimeStamp). IfSome o (λ last. moment_of last < moment_of (stamp_in rec.prologue.stamp))) c.in-Some.ensures.stamp
    (subst (λ (o : Option TimeStamp). moment_of horizon < moment_of (stamp_in o)) (sym c.stamp.ensures) above)
