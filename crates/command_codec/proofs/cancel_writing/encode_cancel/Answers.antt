-- The prologue and CIF0 are the words of the cancellation.
use Rattle.std.proofs.Common.{◌≡◌, ◌+◌, ◌*◌, ◌++◌, ◌∷◌, [], take, drop, sym, ap, ◌∙◌, subst, take-append-drop, arith}
use Rattle.vrt_words.specs.Words.{words_of}
use Rattle.vrt_words.proofs.WordLaws.{length-words_of, AreWords-take, AreBytes-take, same_later}
use Rattle.cam_field.specs.declared.modes.Role.TheVariants as roles
use Rattle.command_prologue.specs.CommandPrologue.{IsCommandPrologue, command_words}
use Rattle.command_prologue.proofs.SpellingLaws.{take_put, datagram_in_front}
use Rattle.command_prologue.specs.declared.prologue.CommandPrologue.{CommandPrologue}
use Rattle.command_codec.specs.Cancel.{front_of, IsCancel}
use Rattle.command_codec.proofs.CancelLaws.{sized, cancel_size, one_datagram}
use Rattle.command_codec.proofs.cancel_writing.encode_cancel.Goals as goal

pub write_command_prologue-at-requires-clause-spelled : goal.write_command_prologue-at-requires-clause-spelled
write_command_prologue-at-requires-clause-spelled c =
    let s = c.requires.spelled in
    let m = command_words (front_of c.args.packet.now) in (
      take m s.0,
      AreWords-take m s.0 s.1.are_words,
      subst (λ (f : CommandPrologue). IsCommandPrologue c.args.profile roles.Cancel f (take m s.0)) (sym c.front-front.ensures) (sized c.args.profile c.args.packet.now s.0 s.1.told),
    )

pub write_command_prologue-at-requires-clause-room : goal.write_command_prologue-at-requires-clause-room
write_command_prologue-at-requires-clause-room c =
    let s = c.requires.spelled in
    let size = cancel_size c.args.profile c.args.packet.now s.0 s.1.told in
    omega (arith, c.requires.room, size, ap command_words c.front-front.ensures)

pub put_words-requires : goal.put_words-requires
put_words-requires c =
    let s = c.requires.spelled in
    let size = cancel_size c.args.profile c.args.packet.now s.0 s.1.told in
    omega (arith, c.requires.room, size, c.write_command_prologue-at.ensures.length, ap command_words c.front-front.ensures)

pub returns-clause-size : goal.returns-clause-size
returns-clause-size c =
    let s = c.requires.spelled in
    let size = cancel_size c.args.profile c.args.packet.now s.0 s.1.told in
    omega (arith, size, c.write_command_prologue-at.ensures.length, ap command_words c.front-front.ensures)

-- the words in front are those of the cancellation
row : (c : goal.After-slice_known-3-1) → take (c.write_command_prologue-at.result + 1) (words_of c.put_words.new.bytes) ≡ c.requires.spelled.0
row c =
    let s = c.requires.spelled in
    let packet = c.args.packet.now in
    let m = command_words (front_of packet) in
    let at = c.write_command_prologue-at.result in
    let first = words_of c.write_command_prologue-at.new.into in
    let second = words_of c.put_words.new.bytes in
    let size = cancel_size c.args.profile packet s.0 s.1.told in
    let start = c.write_command_prologue-at.ensures.length ∙ ap command_words c.front-front.ensures in
    let there = length-words_of c.write_command_prologue-at.new.into in
    let is = subst (λ (f : CommandPrologue). IsCommandPrologue c.args.profile roles.Cancel f (take m s.0)) (sym c.front-front.ensures) (sized c.args.profile c.args.packet.now s.0 s.1.told) in
    let e1 : take at first ≡ take m s.0 = c.write_command_prologue-at.ensures.again (take m s.0) (AreWords-take m s.0 s.1.are_words) is in
    let e2 : take (at + 1) second ≡ take at first ++ (packet.named ∷ []) =
    take_put at (at + 1) second first (packet.named ∷ []) (drop (at + 1) first) (omega (arith, c.requires.room, size, start, there)) (omega arith) c.put_words.ensures.words in
    e2 ∙ ap (λ xs. xs ++ (packet.named ∷ [])) e1 ∙ ap (λ xs. take m s.0 ++ xs) (sym s.1.told.content) ∙ take-append-drop m s.0

pub returns-clause-packet : goal.returns-clause-packet
returns-clause-packet c =
    let s = c.requires.spelled in
    let size = returns-clause-size c in
    datagram_in_front (IsCancel c.args.profile) c.args.packet.now c.put_words.new.bytes s.0 (c.write_command_prologue-at.result + 1) (omega (arith, c.requires.room, size)) s.1.told
    (sym s.1.told.size ∙ sym size) (row c)

pub returns-clause-again : goal.returns-clause-again
returns-clause-again c = λ bytes fit h.
    let n = 4 * (c.write_command_prologue-at.result + 1) in
    one_datagram c.args.profile c.args.packet.now (take n c.put_words.new.bytes) bytes
    (AreBytes-take n c.put_words.new.bytes (λ i. omega (arith, c.type_inv.into i))) fit (returns-clause-packet c) h

pub returns-clause-bytes : goal.returns-clause-bytes
returns-clause-bytes c = λ i. omega (arith, c.type_inv.into i)

pub returns-clause-behind : goal.returns-clause-behind
returns-clause-behind c =
    let at = c.write_command_prologue-at.result in
    c.put_words.ensures.behind
    ∙ same_later (4 * at) (4 * (at + 1)) c.write_command_prologue-at.new.into c.args.into.now (omega arith) c.write_command_prologue-at.ensures.behind
