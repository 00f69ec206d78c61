-- The words and the bytes that spell an acknowledgement are one list.
use Rattle.std.proofs.Common.{◌≡◌, ℕ, ◌+◌, ◌*◌, ◌≤◌, List, ◌++◌, length, take, drop, sym, ap, ◌∙◌, subst, take-append-drop, length-append, length-drop, append_assoc, arith}
use Rattle.std.proofs.lemmas.List.{length-take, length-take-le, take_at, drop_at}
use Rattle.vrt_words.specs.Words.{words_of, AreWords, AreBytes}
use Rattle.vrt_words.specs.Begins.{IsDatagram}
use Rattle.vrt_words.proofs.WordLaws.{words_of-words, one_spelling, AreWords-take, same_later}
use Rattle.vrt_header.specs.Profile.{PacketProfile}
use Rattle.cam_field.specs.declared.modes.Role.TheVariants as roles
use Rattle.command_prologue.specs.CommandPrologue.{command_words}
use Rattle.command_prologue.proofs.SpellingLaws.{one_words}
use Rattle.command_prologue.proofs.FrontLaws.{length-front}
use Rattle.ack_codec.proofs.SizeLaws.{sized}
use Rattle.ack_codec.specs.Ack.{front_of, IsContent, IsAck}
use Rattle.ack_codec.specs.Steps.{content_words}
use Rattle.ack_codec.specs.declared.ack.Ack.{Ack}
use Rattle.ack_codec.specs.declared.ack.Ack.TheVariants.{V, X, S}

pub content_told : (ack : Ack) (words : List ℕ) → IsContent ack words → words ≡ content_words ack
content_told (V report) words h = h.all
content_told (X report) words h = h.all
content_told (S state) words h = h.all

-- the words of an acknowledgement are those of its front and of its content
pub spelled : (profile : PacketProfile) (ack : Ack) (words : List ℕ) → IsAck profile ack words
    → take (command_words (front_of ack)) words ++ content_words ack ≡ words
spelled profile ack words h =
    let n = command_words (front_of ack) in
    ap (λ xs. take n words ++ xs) (sym (content_told ack (drop n words) h.content)) ∙ take-append-drop n words

-- and so many
pub sizes : (profile : PacketProfile) (ack : Ack) (words : List ℕ) → IsAck profile ack words
    → (front_of ack).prologue.header.size ≡ command_words (front_of ack) + length (content_words ack)
sizes profile ack words h =
    let n = command_words (front_of ack) in
    let long = length-front profile roles.Ack (front_of ack) (take n words) h.front in
    omega (arith, h.size, long, length-take n words, length-drop n words, ap length (content_told ack (drop n words) h.content))

one_list : (profile : PacketProfile) (ack : Ack) (a b : List ℕ) → AreWords a → AreWords b → IsAck profile ack a → IsAck profile ack b → a ≡ b
one_list profile ack a b fit fit' p q =
    let n = command_words (front_of ack) in
    let front = one_words profile roles.Ack (front_of ack) (take n a) (take n b) (AreWords-take n a fit) (AreWords-take n b fit') (sized profile ack a p) (sized profile ack b q) in
    sym (spelled profile ack a p) ∙ ap (λ xs. xs ++ content_words ack) front ∙ spelled profile ack b q

pub one_datagram : (profile : PacketProfile) (ack : Ack) (a b : List ℕ) → AreBytes a → AreBytes b
    → IsDatagram (IsAck profile) ack a → IsDatagram (IsAck profile) ack b → a ≡ b
one_datagram profile ack a b fit fit' p q =
    one_spelling a b fit fit' p.whole q.whole (one_list profile ack (words_of a) (words_of b) (words_of-words a fit) (words_of-words b fit') p.packet q.packet)

-- ---- words that are written one part after another

-- one part behind another is both parts in a row
pub both_put : (at i j : ℕ) (old mid new a b : List ℕ) → at ≤ length old → i ≡ at + length a → i ≤ j → mid ≡ take at old ++ (a ++ drop i old)
    → new ≡ take i mid ++ (b ++ drop j mid) → new ≡ take at old ++ ((a ++ b) ++ drop j old)
both_put at i j old mid new a b there e more first second =
    let start = take at old ++ a in
    let row : mid ≡ start ++ drop i old = first ∙ sym (append_assoc (take at old) a (drop i old)) in
    let long : length start ≡ i = length-append (take at old) a ∙ ap (λ n. n + length a) (length-take-le at old there) ∙ sym e in
    let front : take i mid ≡ start = ap (take i) row ∙ take_at start (drop i old) i long in
    let behind : drop i mid ≡ drop i old = ap (drop i) row ∙ drop_at start (drop i old) i long in
    second
    ∙ ap (λ xs. xs ++ (b ++ drop j mid)) front
    ∙ ap (λ xs. start ++ (b ++ xs)) (same_later i j mid old more behind)
    ∙ append_assoc (take at old) a (b ++ drop j old)
    ∙ ap (λ xs. take at old ++ xs) (sym (append_assoc a b (drop j old)))

-- a front and a content that are written are the datagram
pub written : (profile : PacketProfile) (ack : Ack) (words bytes : List ℕ) → IsAck profile ack words → length bytes ≡ 4 * (front_of ack).prologue.header.size
    → words_of bytes ≡ words → IsDatagram (IsAck profile) ack bytes
written profile ack words bytes h long same = record {
  whole = omega (arith, h.size, ap length same);
  packet = subst (IsAck profile ack) (sym same) h;
}
