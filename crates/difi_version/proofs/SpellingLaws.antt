-- The words and the bytes that spell a version packet are one list.
use Rattle.std.proofs.Common.{◌≡◌, ℕ, ◌+◌, ◌*◌, ◌%◌, ◌<◌, ◌≤◌, ◌^◌, ◌==◌, Bool, true, false, List, [], ◌∷◌, ◌++◌, length, take, get_or, sym, ap, ◌∙◌, subst, eqb-true, ◌≢◌, append_assoc, arith}
use mir.Val.{bool_byte}
use Rattle.std.proofs.lemmas.Bool.{eqb-false}
use Rattle.std.proofs.lemmas.List.{take_at, length-take-le}
use Rattle.vrt_words.specs.Words.{words_of, bits, AreWords, AreBytes}
use Rattle.vrt_words.specs.Begins.{IsDatagram}
use Rattle.vrt_words.proofs.WordLaws.{words_of-words, words_of-take, one_spelling, AreWords-take}
use Rattle.vrt_header.specs.Profile.{PacketProfile}
use Rattle.difi_version.specs.Version.{IsVersion}
use Rattle.vrt_header.proofs.SpellingLaws.{same_bit, one_front}
use Rattle.difi_version.specs.declared.version.VersionRec.{VersionRec}

-- the words of a packet are its prologue's, and four more
pub spelled : (profile : PacketProfile) (rec : VersionRec) (words : List ℕ) → IsVersion profile rec words
    → take 7 words ++ (get_or words 7 0 ∷ 12 ∷ rec.spec ∷ rec.version ∷ []) ≡ words
spelled profile rec (a ∷ b ∷ c ∷ d ∷ e ∷ f ∷ g ∷ h ∷ i ∷ j ∷ k ∷ []) p =
    let cif1 : 12 ≡ i = sym p.cif1 in
    let spec : rec.spec ≡ j = p.spec in
    let version : rec.version ≡ k = p.version in
    cc
spelled profile rec words p = absurd (omega (arith, p.all))

-- the first indicator word is the change bit and the number of the other bits
pub cif0_word : (changed : Bool) (byte word : ℕ) → byte ≡ bool_byte changed → word < 2 ^ 32 → changed ≡ (bits word 31 1 == 1) → bits word 0 31 ≡ 2
    → byte * 2147483648 % 4294967296 + 2 ≡ word
cif0_word true byte word b fits e low = let set : bits word 31 1 ≡ 1 = eqb-true (bits word 31 1) 1 (sym e) in omega arith
cif0_word false byte word b fits e low = let clear : bits word 31 1 ≢ 1 = eqb-false (bits word 31 1) 1 (sym e) in omega arith

-- words in front of others, which some words in a row replaced
pub replaced : (front row old new words : List ℕ) (n : ℕ) → new ≡ front ++ (row ++ old) → front ++ row ≡ words → length words ≡ n → take n new ≡ words
replaced front row old new words n e same size =
    ap (take n) (e ∙ sym (append_assoc front row old)) ∙ take_at (front ++ row) old n (ap length same ∙ size) ∙ same

-- the bytes of some first words are a datagram of these words
pub datagram : {V : Type 0} (IsPacket : V → List ℕ → Type 0) (v : V) (n : ℕ) (bytes words : List ℕ) → 4 * n ≤ length bytes → length words ≡ n
    → take n (words_of bytes) ≡ words → IsPacket v words → IsDatagram IsPacket v (take (4 * n) bytes)
datagram IsPacket v n bytes words room size e h =
    let same : words_of (take (4 * n) bytes) ≡ words = words_of-take n bytes ∙ e in
    record { whole = omega (arith, length-take-le (4 * n) bytes room, ap length same); packet = subst (IsPacket v) (sym same) h }

cif0_once : (a b : ℕ) → a < 2 ^ 32 → b < 2 ^ 32 → (bits a 31 1 == 1) ≡ (bits b 31 1 == 1) → bits a 0 31 ≡ bits b 0 31 → a ≡ b
cif0_once a b p q e f = let top = same_bit (bits a 31 1) (bits b 31 1) (omega arith) (omega arith) e in omega arith

-- a packet is spelled by one list of words
pub one_words : (profile : PacketProfile) (rec : VersionRec) (a b : List ℕ) → AreWords a → AreWords b → IsVersion profile rec a → IsVersion profile rec b → a ≡ b
one_words profile rec a b fits fits' p q =
    let front = one_front profile rec.prologue (take 7 a) (take 7 b) (AreWords-take 7 a fits) (AreWords-take 7 b fits') p.prologue.prologue q.prologue.prologue in
    let first = cif0_once (get_or a 7 0) (get_or b 7 0) (fits 7) (fits' 7) (sym p.changed ∙ q.changed) (p.cif0 ∙ sym q.cif0) in
    sym (spelled profile rec a p)
    ∙ ap (λ xs. xs ++ (get_or a 7 0 ∷ 12 ∷ rec.spec ∷ rec.version ∷ [])) front
    ∙ ap (λ w. take 7 b ++ (w ∷ 12 ∷ rec.spec ∷ rec.version ∷ [])) first
    ∙ spelled profile rec b q

-- and by one list of bytes
pub one_datagram : (profile : PacketProfile) (rec : VersionRec) (a b : List ℕ) → AreBytes a → AreBytes b
    → IsDatagram (IsVersion profile) rec a → IsDatagram (IsVersion profile) rec b → a ≡ b
one_datagram profile rec a b fits fits' p q =
    one_spelling a b fits fits' p.whole q.whole
    (one_words profile rec (words_of a) (words_of b) (words_of-words a fits) (words_of-words b fits') p.packet q.packet)
