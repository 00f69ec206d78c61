-- The words in front and the variable part are the record of the value.
use Rattle.std.proofs.Common.{◌≡◌, ◌-◌, ◌≤◌, length, drop, refl, ap, sym, ◌∙◌, arith}
use Rattle.std.proofs.lemmas.Grind.{common_steps}
use Rattle.release_form.specs.Sizes.{part_size}
use Rattle.release_form.proofs.ReleaseLaws.{front_least}
use Rattle.vrt_words.proofs.WordLaws.{AreBytes-take}
use Rattle.release_form.proofs.Spelling.{one_record}
use Rattle.release_form.proofs.Laid.{record_written, behind_written}
use Rattle.release_form.proofs.writing.encode.Goals as goal

pub returns-clause-written : goal.returns-clause-written
returns-clause-written c =
    let shown = c.args.shown.now in
    let payload = c.args.bytes.now in
    let part = c.put_part.new.into in
    let size = c.size_of-size.result in
    let front = c.front_len-front.result in
    let least = front_least shown in
    let room : front ≤ length c.put_front.new.into = omega (arith, c.requires.room, c.front_len-front.ensures) in
    let long : length part ≡ size - front = grind (arith, common_steps) in
    let p : length part ≡ part_size shown (length payload) = omega (arith, long, c.front_len-front.ensures, c.size_of-size.ensures.size) in
    record_written shown payload part c.put_front.new.into front size (size - 8) c.front_len-front.ensures c.size_of-size.ensures.size refl (omega (arith, c.size_of-size.ensures.size)) room
    c.put_front.ensures.words c.put_front.ensures.typed c.requires.obeys c.requires.given p c.put_part.ensures

pub returns-clause-behind : goal.returns-clause-behind
returns-clause-behind c =
    let shown = c.args.shown.now in
    let size = c.size_of-size.result in
    let front = c.front_len-front.result in
    let long : length c.put_part.new.into ≡ size - front = grind (arith, common_steps) in
    let same = ap (λ n. drop n c.put_front.new.into) c.front_len-front.ensures ∙ c.put_front.ensures.behind ∙ sym (ap (λ n. drop n c.args.into.now) c.front_len-front.ensures) in
    behind_written c.put_front.new.into c.args.into.now c.put_part.new.into front size (omega (arith, c.front_len-front.ensures, c.size_of-size.ensures.size))
    (omega (arith, c.requires.room, c.front_len-front.ensures)) long same

pub returns-clause-again : goal.returns-clause-again
returns-clause-again c = λ other fits r.
    one_record c.args.shown.now c.args.bytes.now _ other (AreBytes-take c.size_of-size.result _ (λ i. omega (arith, c.type_inv.into i))) fits (returns-clause-written c) r
