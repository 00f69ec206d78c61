-- The prologue, CIF0 and the values are the words of the command.
use Rattle.std.proofs.Common.{◌≡◌, ◌+◌, ◌*◌, ◌++◌, ◌∷◌, [], take, drop, sym, ap, ◌∙◌, subst, arith}
use Rattle.vrt_words.specs.Words.{words_of}
use Rattle.vrt_words.proofs.WordLaws.{length-words_of, AreWords-take, AreBytes-take, same_later}
use Rattle.cam_field.specs.declared.modes.Role.TheVariants as roles
use Rattle.command_prologue.specs.CommandPrologue.{IsCommandPrologue, command_words}
use Rattle.command_prologue.proofs.SpellingLaws.{take_put, datagram_in_front}
use Rattle.command_prologue.specs.declared.prologue.CommandPrologue.{CommandPrologue}
use Rattle.command_codec.specs.Control.{front_of, words_of_values, IsControl}
use Rattle.command_codec.proofs.ControlLaws.{sized, control_size, row_words, one_datagram}
use Rattle.command_codec.proofs.control_writing.encode_control.Goals as goal

pub write_command_prologue-at-requires-clause-spelled : goal.write_command_prologue-at-requires-clause-spelled
write_command_prologue-at-requires-clause-spelled c =
    let s = c.requires.spelled in
    let m = command_words (front_of c.args.packet.now) in (
      take m s.0,
      AreWords-take m s.0 s.1.are_words,
      subst (λ (f : CommandPrologue). IsCommandPrologue c.args.profile roles.Control f (take m s.0)) (sym c.front-front.ensures) (sized c.args.profile c.args.packet.now s.0 s.1.told),
    )

pub write_command_prologue-at-requires-clause-room : goal.write_command_prologue-at-requires-clause-room
write_command_prologue-at-requires-clause-room c =
    let s = c.requires.spelled in
    let size = control_size c.args.profile c.args.packet.now s.0 s.1.told in
    omega (arith, c.requires.room, size, ap command_words c.front-front.ensures)

pub put_words-requires : goal.put_words-requires
put_words-requires c =
    let s = c.requires.spelled in
    let size = control_size c.args.profile c.args.packet.now s.0 s.1.told in
    omega (arith, c.requires.room, size, c.write_command_prologue-at.ensures.length, ap command_words c.front-front.ensures)

pub put_values-requires : goal.put_values-requires
put_values-requires c =
    let s = c.requires.spelled in
    let size = control_size c.args.profile c.args.packet.now s.0 s.1.told in
    omega (arith, c.requires.room, size, c.write_command_prologue-at.ensures.length, ap command_words c.front-front.ensures)

pub returns-clause-size : goal.returns-clause-size
returns-clause-size c =
    let s = c.requires.spelled in
    let size = control_size c.args.profile c.args.packet.now s.0 s.1.told in
    omega (arith, size, c.write_command_prologue-at.ensures.length, ap command_words c.front-front.ensures, c.put_values.ensures.end)

-- the words in front are those of the command
row : (c : goal.After-slice_known-4-1) → take c.put_values.result (words_of c.put_values.new.into) ≡ c.requires.spelled.0
row c =
    let s = c.requires.spelled in
    let packet = c.args.packet.now in
    let front = front_of packet in
    let at = c.write_command_prologue-at.result in
    let first = words_of c.write_command_prologue-at.new.into in
    let second = words_of c.put_words.new.bytes in
    let third = words_of c.put_values.new.into in
    let values = words_of_values packet.fields in
    let size = control_size c.args.profile packet s.0 s.1.told in
    let start = c.write_command_prologue-at.ensures.length ∙ ap command_words c.front-front.ensures in
    let there = length-words_of c.write_command_prologue-at.new.into in
    let there' = length-words_of c.put_words.new.bytes in
    let is = subst (λ (f : CommandPrologue). IsCommandPrologue c.args.profile roles.Control f (take (command_words front) s.0)) (sym c.front-front.ensures) (sized c.args.profile c.args.packet.now s.0 s.1.told) in
    let e1 : take at first ≡ take (command_words front) s.0 =
    c.write_command_prologue-at.ensures.again (take (command_words front) s.0) (AreWords-take (command_words front) s.0 s.1.are_words) is in
    let e2 : take (at + 1) second ≡ take at first ++ (packet.asked ∷ []) =
    take_put at (at + 1) second first (packet.asked ∷ []) (drop (at + 1) first) (omega (arith, c.requires.room, size, start, there)) (omega arith) c.put_words.ensures.words in
    let e3 : take c.put_values.result third ≡ take (at + 1) second ++ values =
    take_put (at + 1) c.put_values.result third second values (drop c.put_values.result second) (omega (arith, c.requires.room, size, start, there')) c.put_values.ensures.end c.put_values.ensures.words in
    e3 ∙ ap (λ xs. xs ++ values) e2 ∙ row_words c.args.profile packet s.0 (take at first) s.1.told e1

pub returns-clause-packet : goal.returns-clause-packet
returns-clause-packet c =
    let s = c.requires.spelled in
    let size = returns-clause-size c in
    datagram_in_front (IsControl c.args.profile) c.args.packet.now c.put_values.new.into s.0 c.put_values.result (omega (arith, c.requires.room, size)) s.1.told
    (sym s.1.told.size ∙ sym size) (row c)

pub returns-clause-again : goal.returns-clause-again
returns-clause-again c = λ bytes fit h.
    let n = 4 * c.put_values.result in
    one_datagram c.args.profile c.args.packet.now (take n c.put_values.new.into) bytes
    (AreBytes-take n c.put_values.new.into (λ i. omega (arith, c.type_inv.into i))) fit (returns-clause-packet c) h

pub returns-clause-bytes : goal.returns-clause-bytes
returns-clause-bytes c = λ i. omega (arith, c.type_inv.into i)

pub returns-clause-behind : goal.returns-clause-behind
returns-clause-behind c =
    let n = 4 * c.put_values.result in
    let at = c.write_command_prologue-at.result in
    c.put_values.ensures.behind
    ∙ same_later (4 * (at + 1)) n c.put_words.new.bytes c.write_command_prologue-at.new.into (omega (arith, c.put_values.ensures.end)) c.put_words.ensures.behind
    ∙ same_later (4 * at) n c.write_command_prologue-at.new.into c.args.into.now (omega (arith, c.put_values.ensures.end)) c.write_command_prologue-at.ensures.behind
