use Rattle.std.proofs.Common.{◌≡◌, ◌+◌, ◌*◌, ◌≤◌, length, ap, ◌∙◌, arith}
use Rattle.std.proofs.lemmas.Grind.{common_steps}
use Rattle.std.proofs.lemmas.List.{length-append}
use Rattle.release_form.proofs.Pushed.{more_behind, no_samples}
use Rattle.release_form.proofs.pushing.push_unpacked.Goals as goal

pub loop-done-init : goal.loop-done-init
loop-done-init c = record { within = omega arith; written = no_samples c.args.bits c.args.first c.args.payload.now c.args.out.now }

pub push-requires : goal.push-requires
push-requires c =
    let h = c.loop-done.invariant.written in
    let size : length c.put_samples.new.into ≡ 4 * c.min-count.result = grind (arith, common_steps) in
    let out : length c.loop-done.out ≡ length c.args.out.now + length h.bytes = ap (λ l. length l) h.behind ∙ length-append c.args.out.now h.bytes in
    let few : c.loop-done.done + c.min-count.result ≤ c.args.number = omega arith in
    omega (arith, size, out, h.size_is, few, c.requires.room)

pub loop-done-preserved : goal.loop-done-preserved
loop-done-preserved c =
    let size : length c.put_samples.new.into ≡ 4 * c.min-count.result = grind (arith, common_steps) in
    record {
      within = omega arith;
      written = more_behind c.args.bits c.args.first c.loop-done.done c.min-count.result c.args.payload.now c.args.out.now c.loop-done.out c.push.new.out c.put_samples.new.into
          c.loop-done.invariant.written c.push.ensures.behind c.push.ensures.fit size c.put_samples.ensures;
    }
