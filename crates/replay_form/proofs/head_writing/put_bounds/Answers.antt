-- All seven entries are written.
use Rattle.std.proofs.Common.{◌≡◌, ◌+◌, ◌*◌, take, subst, arith}
use Rattle.replay_form.proofs.head_writing.put_bounds.Goals as goal

pub returns-clause-agrees : goal.returns-clause-agrees
returns-clause-agrees c = λ bytes spelled same.
    let all : 136 + 28 * c.loop-bound.bound ≡ 332 = omega arith in
    subst (λ n. take n c.loop-bound.into ≡ take n bytes) all (c.loop-bound.invariant.agrees bytes spelled same)
