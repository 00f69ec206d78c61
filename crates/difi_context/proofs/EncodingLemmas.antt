-- The words that an encoder writes are those of the packet.
use Rattle.std.proofs.Common.{◌≡◌, ℕ, ◌+◌, ◌*◌, ◌<◌, ◌≤◌, Bool, true, false, List, [], ◌∷◌, ◌++◌, length, take, drop, set, get_or, refl, sym, ap, ◌∙◌, subst, append_assoc, length-append, length-drop, arith}
use Rattle.std.proofs.lemmas.List.{take_at, take_more_set, drop_more, take-append-drop, length-take-le}
use Rattle.vrt_words.specs.Words.{words_of, AreWords, AreBytes}
use Rattle.vrt_words.specs.Begins.{IsDatagram}
use Rattle.vrt_words.proofs.WordLaws.{AreWords-take, length-words_of, words_of-take, AreBytes-take, one_spelling}
use Rattle.vrt_header.specs.Profile.{PacketProfile}
use Rattle.vrt_header.specs.Header.{prologue_words}
use Rattle.vrt_header.specs.Prologue.{IsPrologue}
use Rattle.vrt_header.specs.declared.header.Kind.TheVariants.{Context}
use Rattle.vrt_header.proofs.KindLaws.{timed_of_kind}
use Rattle.difi_context.proofs.SpellingLaws.{cif0_word}
use Rattle.difi_context.specs.Context.{IsContext, cif0_of}
use Rattle.difi_context.specs.declared.context.ContextRec.{ContextRec}

-- the words in front are those of the packet
pub written : (profile : PacketProfile) (rec : ContextRec) (words first second third : List ℕ) (cif0 : ℕ) → AreWords words → IsContext profile rec words
    → take 7 first ≡ take 7 words → 7 < length first → cif0 ≡ cif0_of rec.changed → second ≡ set first 7 cif0
    → third ≡ take 8 second ++ (rec.fields ++ drop (8 + length rec.fields) second) → take 27 third ≡ words
written profile rec words first second third cif0 fits h front long e0 e2 e3 =
    let word : get_or words 7 0 ≡ cif0 = cif0_word (get_or words 7 0) rec.changed (fits 7) h.changed h.cif0 ∙ sym e0 in
    let count : length rec.fields ≡ 19 = ap length h.fields ∙ omega (arith, length-drop 8 words, h.all) in
    let rest = drop (8 + length rec.fields) second in
    let eight : take 8 second ≡ take 7 words ++ cif0 ∷ [] =
    ap (take 8) e2 ∙ take_more_set first 7 cif0 long ∙ ap (λ xs. xs ++ cif0 ∷ []) front in
    let seven : length (take 7 words) ≡ 7 = length-take-le 7 words (omega (arith, h.all)) in
    let size : length (take 8 second ++ rec.fields) ≡ 27 =
    length-append (take 8 second) rec.fields ∙ omega (arith, count, ap length eight, length-append (take 7 words) (cif0 ∷ []), seven) in
    ap (take 27) (e3 ∙ sym (append_assoc (take 8 second) rec.fields rest))
    ∙ take_at (take 8 second ++ rec.fields) rest 27 size
    ∙ ap (λ xs. xs ++ rec.fields) eight
    ∙ ap (λ xs. (take 7 words ++ cif0 ∷ []) ++ xs) h.fields
    ∙ append_assoc (take 7 words) (cif0 ∷ []) (drop 8 words)
    ∙ ap (λ w. take 7 words ++ w ∷ drop 8 words) (sym word)
    ∙ ap (λ xs. take 7 words ++ xs) (sym (drop_more words 7 0 (omega (arith, h.all))))
    ∙ take-append-drop 7 words

-- bytes whose words in front are those of the packet have its datagram in front
pub datagram_in_front : (profile : PacketProfile) (rec : ContextRec) (bytes words : List ℕ) → 108 ≤ length bytes → IsContext profile rec words
    → take 27 (words_of bytes) ≡ words → IsDatagram (IsContext profile) rec (take 108 bytes)
datagram_in_front profile rec bytes words there h e =
    let same : words_of (take 108 bytes) ≡ words = words_of-take 27 bytes ∙ e in
    record {
      whole = length-take-le 108 bytes there ∙ sym (ap (λ xs. 4 * length xs) same ∙ ap (λ n. 4 * n) h.all);
      packet = subst (IsContext profile rec) (sym same) h;
    }

-- and no other bytes are the datagram
pub same_in_front : (profile : PacketProfile) (rec : ContextRec) (bytes other : List ℕ) → 108 ≤ length bytes → AreBytes bytes → AreBytes other
    → IsDatagram (IsContext profile) rec other → take 27 (words_of bytes) ≡ words_of other → take 108 bytes ≡ other
same_in_front profile rec bytes other there p q d e =
    let mine = datagram_in_front profile rec bytes (words_of other) there d.packet e in
    one_spelling (take 108 bytes) other (AreBytes-take 108 bytes p) q mine.whole d.whole (words_of-take 27 bytes ∙ e)

pub most_words : (timed : Bool) → prologue_words timed ≤ 7
most_words true = omega arith
most_words false = omega arith

pub count_fields : (profile : PacketProfile) (rec : ContextRec) (words : List ℕ) → IsContext profile rec words → length rec.fields ≡ 19
count_fields profile rec words h = ap length h.fields ∙ omega (arith, length-drop 8 words, h.all)

-- whichever words are the packet's, they stand in front of what the three writes leave
pub encoded : (profile : PacketProfile) (rec : ContextRec) (first second third : List ℕ) (count cif0 : ℕ) → count ≡ prologue_words rec.prologue.header.timed
    → ((words : List ℕ) → AreWords words → IsPrologue profile rec.prologue words → take count (words_of first) ≡ words) → 108 ≤ length first
    → cif0 ≡ cif0_of rec.changed → words_of second ≡ set (words_of first) 7 cif0
    → words_of third ≡ take 8 (words_of second) ++ (rec.fields ++ drop (8 + length rec.fields) (words_of second))
    → (words : List ℕ) → AreWords words → IsContext profile rec words → take 27 (words_of third) ≡ words
encoded profile rec first second third count cif0 e front there c e2 e3 words fits h =
    let timed = timed_of_kind profile Context rec.prologue (take 7 words) refl h.prologue in
    let seven : count ≡ 7 = e ∙ ap prologue_words timed in
    let there_words = length-words_of first in
    written profile rec words (words_of first) (words_of second) (words_of third) cif0 fits h
    (subst (λ n. take n (words_of first) ≡ take 7 words) seven (front (take 7 words) (AreWords-take 7 words fits) h.prologue.prologue)) (omega (arith, there_words.1)) c e2 e3
