use Rattle.std.proofs.Common.{◌++◌, ◌-◌, take, subst, ap, ◌∙◌, arith}
use Rattle.std.proofs.lemmas.List.{length-take-le}
use Rattle.vrt_words.specs.Words.{AreBytes}
use Rattle.release_form.specs.Layout.{front_of}
use Rattle.release_form.specs.declared.shown.Shown.TheVariants as shown
use Rattle.release_form.proofs.Pushed.{front_most, record_behind}
use Rattle.release_form.proofs.ReleaseLaws.{front_least}
use Rattle.release_form.proofs.pushing.push_run.Goals as goal

pub returns : goal.returns
returns c =
    let it = shown.Run c.args.stream c.args.port c.args.lost c.args.run.now in
    let into = c.put_front_of_run.new.into in
    let n = c.front_len_of_run.ensures in
    let size = c.size_of_run-size.ensures in
    record_behind it c.args.payload.now (take (front_of it) into) c.args.out.now c.push.new.out c.push_run_part.new.out (c.size_of_run-size.result - 8)
    (length-take-le (front_of it) into (omega (arith, front_most it, c.put_front_of_run.auto.into))) c.put_front_of_run.ensures.words c.put_front_of_run.ensures.typed c.requires.obeys c.requires.given
    (omega (arith, size, front_least it)) (subst (λ k. AreBytes (take k into)) n c.push.ensures.fit) (c.push.ensures.behind ∙ ap (λ k. c.args.out.now ++ take k into) n) c.push_run_part.ensures
