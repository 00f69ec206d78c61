-- The words in front are those of the packet, and the bytes behind them stay.
use Rattle.std.proofs.Common.{refl, ◌≡◌, ◌+◌, ◌*◌, ◌%◌, ◌∷◌, ◌++◌, [], ◌∙◌, ap, sym, subst, take, drop, get_or, arith}
use Rattle.std.proofs.lemmas.List.{drop-drop}
use Rattle.vrt_words.specs.Words.{words_of}
use Rattle.vrt_words.proofs.WordLaws.{AreWords-take}
use Rattle.difi_version.specs.Version.{IsVersion}
use Rattle.vrt_header.specs.declared.header.Kind.TheVariants.{Version}
use Rattle.vrt_header.proofs.KindLaws.{seven_words}
use Rattle.vrt_words.proofs.WordLaws.{AreBytes-take}
use Rattle.difi_version.proofs.SpellingLaws.{spelled, cif0_word, replaced, datagram, one_datagram}
use Rattle.difi_version.proofs.version.encode.Goals as goal

pub write_prologue-requires-clause-spelled : goal.write_prologue-requires-clause-spelled
write_prologue-requires-clause-spelled c =
    let s = c.requires.spelled in
    (take 7 s.0, AreWords-take 7 s.0 s.1, s.2.prologue.prologue)

pub returns-clause-packet : goal.returns-clause-packet
returns-clause-packet c =
    let s = c.requires.spelled in
    let profile = c.args.profile in
    let rec = c.args.rec.now in
    let row = (c.from.result * 2147483648 % 4294967296 + 2) ∷ 12 ∷ rec.spec ∷ rec.version ∷ [] in
    let mid = words_of c.write_prologue.new.into in
    let seven : c.write_prologue.result ≡ 7 =
    c.write_prologue.ensures.length ∙ sym s.2.prologue.prologue.all ∙ seven_words profile Version rec.prologue (take 7 s.0) refl s.2.prologue in
    let front : take 7 mid ≡ take 7 s.0 = ap (λ n. take n mid) (sym seven) ∙ c.write_prologue.ensures.again (take 7 s.0) (AreWords-take 7 s.0 s.1) s.2.prologue.prologue in
    let first = cif0_word rec.changed c.from.result (get_or s.0 7 0) c.from.ensures (s.1 7) s.2.changed s.2.cif0 in
    let same : take 7 mid ++ row ≡ s.0 =
    ap (λ xs. xs ++ row) front ∙ ap (λ w. take 7 s.0 ++ (w ∷ 12 ∷ rec.spec ∷ rec.version ∷ [])) first ∙ spelled profile rec s.0 s.2 in
    datagram (IsVersion profile) rec 11 c.put_words.new.bytes s.0 (omega arith) s.2.all
    (replaced (take 7 mid) row (drop 11 mid) (words_of c.put_words.new.bytes) s.0 11 c.put_words.ensures.words same s.2.all) s.2

pub returns-clause-again : goal.returns-clause-again
returns-clause-again c = λ bytes fits h.
    let new = c.put_words.new.bytes in
    one_datagram c.args.profile c.args.rec.now (take 44 new) bytes (AreBytes-take 44 new (λ i. omega (arith, c.type_inv.into i))) fits (returns-clause-packet c) h

pub returns-clause-behind : goal.returns-clause-behind
returns-clause-behind c =
    let s = c.requires.spelled in
    let seven : c.write_prologue.result ≡ 7 =
    c.write_prologue.ensures.length ∙ sym s.2.prologue.prologue.all ∙ seven_words c.args.profile Version c.args.rec.now.prologue (take 7 s.0) refl s.2.prologue in
    let mid = c.write_prologue.new.into in
    let kept : drop 28 mid ≡ drop 28 c.args.into.now = subst (λ n. drop (4 * n) mid ≡ drop (4 * n) c.args.into.now) seven c.write_prologue.ensures.behind in
    c.put_words.ensures.behind ∙ sym (drop-drop 16 28 mid) ∙ ap (drop 16) kept ∙ drop-drop 16 28 c.args.into.now
