-- Laws of spelling: a context packet is spelled by one list of words, and of bytes.
use Rattle.std.proofs.Common.{◌≡◌, ◌<◌, ◌^◌, ◌==◌, ℕ, Bool, true, false, List, ◌∷◌, ◌++◌, take, get_or, sym, ap, ◌∙◌, take-append-drop, arith}
use Rattle.std.proofs.lemmas.Bool.Decides.{nat_tests}
use Rattle.std.proofs.lemmas.List.{drop_more}
use Rattle.vrt_words.specs.Words.{words_of, bits, AreWords, AreBytes}
use Rattle.vrt_words.specs.Begins.{IsDatagram}
use Rattle.vrt_words.proofs.WordLaws.{words_of-words, one_spelling, AreWords-take}
use Rattle.vrt_header.specs.Profile.{PacketProfile}
use Rattle.vrt_header.proofs.SpellingLaws.{one_front}
use Rattle.difi_context.specs.Context.{IsContext, cif0_of, fields_bits}
use Rattle.difi_context.specs.declared.context.ContextRec.{ContextRec}

-- CIF0 is told by its change bit
pub cif0_word : (word : ℕ) (changed : Bool) → word < 2 ^ 32 → changed ≡ (bits word 31 1 == 1) → bits word 0 31 ≡ fields_bits → word ≡ cif0_of changed
cif0_word word true fits e b = grind (arith, nat_tests)
cif0_word word false fits e b = grind (arith, nat_tests)

-- the words of a context are its prologue's, CIF0 and the fields
spelled : (profile : PacketProfile) (rec : ContextRec) (words : List ℕ) → IsContext profile rec words
    → words ≡ take 7 words ++ (get_or words 7 0 ∷ rec.fields)
spelled profile rec words h =
    sym (take-append-drop 7 words) ∙ ap (λ xs. take 7 words ++ xs) (drop_more words 7 0 (omega (arith, h.all)))
    ∙ ap (λ xs. take 7 words ++ (get_or words 7 0 ∷ xs)) (sym h.fields)

one_words : (profile : PacketProfile) (rec : ContextRec) (a b : List ℕ) → AreWords a → AreWords b → IsContext profile rec a → IsContext profile rec b → a ≡ b
one_words profile rec a b fits fits' p q =
    let front = one_front profile rec.prologue (take 7 a) (take 7 b) (AreWords-take 7 a fits) (AreWords-take 7 b fits') p.prologue.prologue q.prologue.prologue in
    let cif0 : get_or a 7 0 ≡ get_or b 7 0 =
    cif0_word (get_or a 7 0) rec.changed (fits 7) p.changed p.cif0 ∙ sym (cif0_word (get_or b 7 0) rec.changed (fits' 7) q.changed q.cif0) in
    spelled profile rec a p ∙ ap (λ xs. xs ++ (get_or a 7 0 ∷ rec.fields)) front ∙ ap (λ w. take 7 b ++ (w ∷ rec.fields)) cif0 ∙ sym (spelled profile rec b q)

-- and by one list of bytes
pub one_datagram : (profile : PacketProfile) (rec : ContextRec) (a b : List ℕ) → AreBytes a → AreBytes b
    → IsDatagram (IsContext profile) rec a → IsDatagram (IsContext profile) rec b → a ≡ b
one_datagram profile rec a b fits fits' p q =
    one_spelling a b fits fits' p.whole q.whole
    (one_words profile rec (words_of a) (words_of b) (words_of-words a fits) (words_of-words b fits') p.packet q.packet)
