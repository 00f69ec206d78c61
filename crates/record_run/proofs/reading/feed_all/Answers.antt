use Rattle.std.proofs.Common.{length, ◌++◌, [], take, refl, sym, ap, ◌∙◌, length-append, arith}
use Rattle.std.proofs.lemmas.List.{length-take-le}
use Rattle.record_run.proofs.Feeding.{head_stays, stays_on, none_before, fed_nothing, next_fed, err_fed, ends_all, split_on, one_taken, some_bytes, same_end}
use Rattle.record_run.proofs.reading.feed_all.Goals as goal

pub loop-rest-init : goal.loop-rest-init
loop-rest-init g c = record {
  front = [];
  split = refl;
  ready = c.requires.ready;
  wants = refl;
  given = omega arith;
  stays = head_stays _ _ refl;
  room = c.requires.room;
  quiet = λ e. (refl, refl);
  fed = λ taken frames stands. fed_nothing _ _ _ taken frames stands;
}

pub returns-in-Err-clause-fed : goal.returns-in-Err-clause-fed
returns-in-Err-clause-fed g c = λ taken frames stands.
    let inv = c.loop-rest.invariant in
    let rest = c.loop-rest.rest.now in
    let first = inv.fed taken frames stands in
    let once = c.in-Err.ensures.fed (taken ++ inv.front) (frames ++ first.later) first.stands in
    err_fed g.I.Intake.grammar c.in-Err.stop inv.front (take once.count rest) rest c.args.bytes.now _ _ _ _ _ _ _ _ _ taken frames inv.stays inv.split inv.wants
    (λ out wants.
    let none = (c.in-Err.ensures.memory (ap ends_all out)).2 in (
      one_taken c.args.bytes.now inv.front rest once.count inv.split (c.requires.one (sym inv.wants ∙ wants) (none_before _ _ inv.stays none)) once.some once.few,
      (let quiet = inv.quiet none in rw (quiet.0, quiet.1) refl),
    ))
    first once.fed

pub loop-rest-preserved : goal.loop-rest-preserved
loop-rest-preserved g c =
    let inv = c.loop-rest.invariant in
    let rest = c.loop-rest.rest.now in
    let count = c.in-Ok.count in
    let few = c.in-Ok.ensures.few in record {
      front = inv.front ++ take count rest;
      split = split_on c.args.bytes.now inv.front rest count inv.split ∙ ap (λ l. (inv.front ++ take count rest) ++ l) (sym c.behind-rest.ensures);
      ready = c.in-Ok.ensures.ready;
      wants = c.in-Ok.ensures.wants ∙ inv.wants;
      given = omega (arith, c.in-Ok.ensures.given, inv.given, length-append inv.front (take count rest), length-take-le count rest few);
      stays = stays_on _ _ _ inv.stays c.in-Ok.ensures.stays;
      room = c.feed_once.ensures.room;
      quiet = λ none.
          let now = c.in-Ok.ensures.quiet none in
          let before = inv.quiet (none_before _ _ c.in-Ok.ensures.stays none) in
          (now.0 ∙ before.0, now.1 ∙ before.1);
      fed = λ taken frames stands.
          let first = inv.fed taken frames stands in
          let once = c.in-Ok.ensures.fed (taken ++ inv.front) (frames ++ first.later) first.stands in
          next_fed g.I.Intake.grammar count inv.front rest _ _ _ _ _ _ _ _ _ taken frames c.in-Ok.ensures.stays first once;
    }

pub returns-in-Err-clause-memory : goal.returns-in-Err-clause-memory
returns-in-Err-clause-memory g c = λ out.
    let inv = c.loop-rest.invariant in
    let m = c.in-Err.ensures.memory (same_end c.in-Err.stop _ out) in
    let quiet = inv.quiet m.2 in (
      m.0 ∙ quiet.0,
      m.1 ∙ quiet.1,
      none_before _ _ inv.stays m.2,
      omega (arith, ap length inv.split, length-append inv.front c.loop-rest.rest.now, some_bytes c.loop-rest.rest.now (sym c.loop-rest-test.true ∙ c.is_empty.ensures)),
    )
