-- The front and the content are written one after another, and are the words of the acknowledgement.
use Rattle.std.proofs.Common.{◌≡◌, ◌≤◌, ◌*◌, ◌++◌, length, take, drop, sym, ap, ◌∙◌, subst, arith}
use Rattle.std.proofs.lemmas.List.{length-take-le}
use Rattle.vrt_words.specs.Words.{words_of}
use Rattle.vrt_words.proofs.WordLaws.{length-words_of, words_of-take, AreWords-take, AreBytes-take, same_later}
use Rattle.cam_field.specs.declared.modes.Role.TheVariants as roles
use Rattle.command_prologue.specs.CommandPrologue.{IsCommandPrologue, command_words}
use Rattle.command_prologue.proofs.SpellingLaws.{take_put}
use Rattle.command_prologue.specs.declared.prologue.CommandPrologue.{CommandPrologue}
use Rattle.ack_codec.specs.Ack.{front_of}
use Rattle.ack_codec.proofs.SizeLaws.{sized}
use Rattle.ack_codec.specs.Steps.{content_words}
use Rattle.ack_codec.proofs.SpellingLaws.{spelled, sizes, one_datagram, written}
use Rattle.ack_codec.proofs.writing.encode_ack.Goals as goal

pub write_command_prologue-start-requires-clause-spelled : goal.write_command_prologue-start-requires-clause-spelled
write_command_prologue-start-requires-clause-spelled c =
    let s = c.requires.spelled in
    let n = command_words (front_of c.args.packet.now) in
    (take n s.0, AreWords-take n s.0 s.1, subst (λ (f : CommandPrologue). IsCommandPrologue c.args.profile roles.Ack f (take n s.0)) (sym c.front.ensures) (sized c.args.profile c.args.packet.now s.0 s.2))

pub write_command_prologue-start-requires-clause-room : goal.write_command_prologue-start-requires-clause-room
write_command_prologue-start-requires-clause-room c =
    let s = c.requires.spelled in
    omega (arith, c.requires.room, sizes c.args.profile c.args.packet.now s.0 s.2, ap command_words c.front.ensures)

pub put_content-requires : goal.put_content-requires
put_content-requires c =
    let s = c.requires.spelled in
    let sum = sizes c.args.profile c.args.packet.now s.0 s.2 in
    let start : c.write_command_prologue-start.result ≡ command_words (front_of c.args.packet.now) =
    c.write_command_prologue-start.ensures.length ∙ ap command_words c.front.ensures in
    omega (arith, sum, start, c.requires.room, c.write_command_prologue-start.auto.into)

pub returns-clause-size : goal.returns-clause-size
returns-clause-size c =
    let s = c.requires.spelled in
    let sum = sizes c.args.profile c.args.packet.now s.0 s.2 in
    let start : c.write_command_prologue-start.result ≡ command_words (front_of c.args.packet.now) =
    c.write_command_prologue-start.ensures.length ∙ ap command_words c.front.ensures in
    omega (arith, sum, start, c.put_content.ensures.end)

pub returns-clause-packet : goal.returns-clause-packet
returns-clause-packet c =
    let s = c.requires.spelled in
    let ack = c.args.packet.now in
    let n = command_words (front_of ack) in
    let at = c.write_command_prologue-start.result in
    let end = c.put_content.result in
    let mid = words_of c.write_command_prologue-start.new.into in
    let new = c.put_content.new.into in
    let size = returns-clause-size c in
    let start : at ≡ n = c.write_command_prologue-start.ensures.length ∙ ap command_words c.front.ensures in
    let front : take at mid ≡ take n s.0 =
    c.write_command_prologue-start.ensures.again (take n s.0) (AreWords-take n s.0 s.1)
    (subst (λ (f : CommandPrologue). IsCommandPrologue c.args.profile roles.Ack f (take n s.0)) (sym c.front.ensures) (sized c.args.profile c.args.packet.now s.0 s.2)) in
    let there : at ≤ length mid = omega (arith, length-words_of c.write_command_prologue-start.new.into, c.put_content.ensures.end, size, c.requires.room, c.write_command_prologue-start.auto.into) in
    let row : take end (words_of new) ≡ s.0 =
    take_put at end (words_of new) mid (content_words ack) (drop end mid) there c.put_content.ensures.end c.put_content.ensures.words
    ∙ ap (λ xs. xs ++ content_words ack) front ∙ spelled c.args.profile ack s.0 s.2 in
    written c.args.profile ack s.0 (take (4 * end) new) s.2
    (length-take-le (4 * end) new (omega (arith, size, c.requires.room, c.put_content.auto.into, c.write_command_prologue-start.auto.into)) ∙ ap (λ i. 4 * i) size)
    (words_of-take end new ∙ row)

pub returns-clause-again : goal.returns-clause-again
returns-clause-again c = λ bytes fits h.
    let n = 4 * c.put_content.result in
    one_datagram c.args.profile c.args.packet.now (take n c.put_content.new.into) bytes (AreBytes-take n c.put_content.new.into (λ i. omega (arith, c.type_inv.into i))) fits
    (returns-clause-packet c) h

pub returns-clause-behind : goal.returns-clause-behind
returns-clause-behind c =
    let end = c.put_content.ensures.end in
    c.put_content.ensures.behind
    ∙ same_later (4 * c.write_command_prologue-start.result) (4 * c.put_content.result) c.write_command_prologue-start.new.into c.args.into.now (omega arith)
    c.write_command_prologue-start.ensures.behind
