-- One route after another.
use Rattle.std.proofs.Common.{◌≡◌, ◌+◌, ◌*◌, ◌∙◌, take, length, subst, arith}
use Rattle.replay_form.proofs.head_writing.put_second_routes.Goals as goal

pub loop-place-preserved : goal.loop-place-preserved
loop-place-preserved c = record {
  agrees = λ bytes spelled same.
      let next : 332 + 16 * c.loop-place.place + 16 ≡ 332 + 16 * (c.loop-place.place + 1) = omega arith in
      subst (λ n. take n c.put_second_route.new.into ≡ take n bytes) next
      (c.put_second_route.ensures.agrees bytes (spelled c.loop-place.place _ c.loop-place-test.true) (c.loop-place.invariant.agrees bytes spelled same));
  stays = λ n h. c.put_second_route.ensures.stays n (omega arith) ∙ c.loop-place.invariant.stays n (omega arith);
}

pub returns-clause-agrees : goal.returns-clause-agrees
returns-clause-agrees c = λ bytes spelled same.
    let all : c.loop-place.place ≡ length c.args.routes.now = omega arith in
    subst (λ n. take (332 + 16 * n) c.loop-place.into ≡ take (332 + 16 * n) bytes) all (c.loop-place.invariant.agrees bytes spelled same)
