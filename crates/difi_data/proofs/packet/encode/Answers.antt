-- The bytes in front are those of the packet, and the bytes behind them stay.
use Rattle.std.proofs.Common.{◌≡◌, refl, ◌+◌, ◌-◌, ◌*◌, ◌++◌, ◌∙◌, ap, sym, subst, take, drop, length, length-drop, arith}
use Rattle.std.proofs.lemmas.List.{length-take, drop-drop}
use Rattle.std.proofs.lemmas.Slice.{take-put_mid, drop-put_mid}
use borrow.Rule.Slice.PartMut.{put_mid}
use Rattle.vrt_words.specs.Words.{words_of}
use Rattle.vrt_words.specs.Begins.{IsDatagram}
use Rattle.vrt_words.proofs.WordLaws.{AreWords-take}
use Rattle.difi_data.specs.Data.{IsData, packet_of}
use Rattle.vrt_header.specs.declared.header.Kind.TheVariants.{Data}
use Rattle.vrt_header.proofs.KindLaws.{seven_words}
use Rattle.vrt_words.proofs.WordLaws.{AreBytes-take}
use Rattle.difi_data.proofs.SpellingLaws.{payload_size, row_datagram, one_datagram}
use Rattle.difi_data.proofs.packet.encode.Goals as goal

pub write_prologue-requires-clause-spelled : goal.write_prologue-requires-clause-spelled
write_prologue-requires-clause-spelled c =
    let s = c.requires.spelled in
    (take 7 s.0, AreWords-take 7 s.0 s.1, s.2.prologue.prologue)

pub slice_bounds-copy_from_slice-count : goal.slice_bounds-copy_from_slice-count
slice_bounds-copy_from_slice-count c =
    let s = c.requires.spelled in
    omega (arith, payload_size c.args.profile (packet_of c.args.rec.now) s.0 s.2, c.from-size.ensures)

pub slice_bounds-copy_from_slice-start : goal.slice_bounds-copy_from_slice-start
slice_bounds-copy_from_slice-start c =
    let s = c.requires.spelled in
    let size = payload_size c.args.profile (packet_of c.args.rec.now) s.0 s.2 in
    omega (arith, size, c.from-size.ensures)

pub copy_from_slice-requires : goal.copy_from_slice-requires
copy_from_slice-requires c =
    let s = c.requires.spelled in
    let mid = c.write_prologue.new.into in
    omega (arith, payload_size c.args.profile (packet_of c.args.rec.now) s.0 s.2, c.from-size.ensures, length-take (4 * c.from-size.result - 28) (drop 28 mid), length-drop 28 mid)

pub returns-clause-packet : goal.returns-clause-packet
returns-clause-packet c =
    let s = c.requires.spelled in
    let profile = c.args.profile in
    let packet = packet_of c.args.rec.now in
    let n = 4 * c.from-size.result in
    let mid = c.write_prologue.new.into in
    let size = payload_size profile packet s.0 s.2 in
    let row : take n (put_mid 28 (n - 28) mid c.copy_from_slice.new.self) ≡ take 28 mid ++ packet.payload =
    take-put_mid 28 (n - 28) mid c.copy_from_slice.new.self n (omega (arith, size, c.from-size.ensures, ap length c.copy_from_slice.ensures.after))
    (omega (arith, size, c.from-size.ensures, c.write_prologue.auto.into))
    ∙ ap (λ xs. take 28 mid ++ xs) c.copy_from_slice.ensures.after in
    let seven : c.write_prologue.result ≡ 7 =
    c.write_prologue.ensures.length ∙ sym s.2.prologue.prologue.all ∙ seven_words profile Data packet.prologue (take 7 s.0) refl s.2.prologue in
    let front : take 7 (words_of mid) ≡ take 7 s.0 =
    ap (λ k. take k (words_of mid)) (sym seven) ∙ c.write_prologue.ensures.again (take 7 s.0) (AreWords-take 7 s.0 s.1) s.2.prologue.prologue in
    subst (IsDatagram (IsData profile) packet) (sym row) (row_datagram profile packet mid s.0 s.2 (omega (arith, size, c.write_prologue.auto.into)) front)

pub returns-clause-again : goal.returns-clause-again
returns-clause-again c = λ bytes fits h.
    let n = 4 * c.from-size.result in
    let new = put_mid 28 (n - 28) c.write_prologue.new.into c.copy_from_slice.new.self in
    one_datagram c.args.profile (packet_of c.args.rec.now) (take n new) bytes (AreBytes-take n new (λ i. omega (arith, c.type_inv.into i))) fits (returns-clause-packet c) h

pub returns-clause-behind : goal.returns-clause-behind
returns-clause-behind c =
    let s = c.requires.spelled in
    let n = 4 * c.from-size.result in
    let mid = c.write_prologue.new.into in
    let size = payload_size c.args.profile (packet_of c.args.rec.now) s.0 s.2 in
    let seven : c.write_prologue.result ≡ 7 =
    c.write_prologue.ensures.length ∙ sym s.2.prologue.prologue.all ∙ seven_words c.args.profile Data c.args.rec.now.prologue (take 7 s.0) refl s.2.prologue in
    let kept : drop 28 mid ≡ drop 28 c.args.into.now = subst (λ k. drop (4 * k) mid ≡ drop (4 * k) c.args.into.now) seven c.write_prologue.ensures.behind in
    let e : 28 + (n - 28) ≡ n = omega (arith, size, c.from-size.ensures) in
    drop-put_mid 28 (n - 28) mid c.copy_from_slice.new.self n (omega (arith, e)) (omega (arith, size, c.write_prologue.auto.into))
    (omega (arith, size, c.from-size.ensures, ap length c.copy_from_slice.ensures.after))
    ∙ ap (λ k. drop k mid) (sym e) ∙ sym (drop-drop (n - 28) 28 mid) ∙ ap (drop (n - 28)) kept ∙ drop-drop (n - 28) 28 c.args.into.now ∙ ap (λ k. drop k c.args.into.now) e
