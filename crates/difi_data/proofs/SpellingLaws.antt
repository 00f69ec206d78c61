-- The words and the bytes that spell a data packet are one list.
use Rattle.std.proofs.Common.{◌≡◌, refl, ℕ, ◌+◌, ◌*◌, ◌≤◌, List, ◌++◌, length, take, sym, ap, ◌∙◌, subst, take-append-drop, length-append, length-drop, arith}
use Rattle.std.proofs.lemmas.List.{length-take, length-take-le}
use Rattle.vrt_words.specs.Words.{words_of, AreWords, AreBytes}
use Rattle.vrt_words.specs.Begins.{IsDatagram}
use Rattle.vrt_words.proofs.WordLaws.{words_of-words, words_of-take, words_of-append, one_spelling, AreWords-take}
use Rattle.vrt_header.specs.Profile.{PacketProfile}
use Rattle.difi_data.specs.Data.{DataPacket, IsData}
use Rattle.vrt_header.specs.declared.header.Kind.TheVariants.{Data}
use Rattle.vrt_header.proofs.KindLaws.{seven_words}
use Rattle.vrt_header.proofs.SpellingLaws.{one_front}

-- the words of a packet are its prologue's, and its payload's
pub spelled : (profile : PacketProfile) (packet : DataPacket) (words : List ℕ) → IsData profile packet words → take 7 words ++ words_of packet.payload ≡ words
spelled profile packet words h = ap (λ ws. take 7 words ++ ws) h.payload ∙ take-append-drop 7 words

-- the bytes of the payload, and those in front of it
pub payload_size : (profile : PacketProfile) (packet : DataPacket) (words : List ℕ) → IsData profile packet words
    → (28 ≤ 4 * packet.prologue.header.size) × (length packet.payload + 28 ≡ 4 * packet.prologue.header.size)
payload_size profile packet words h =
    let seven : length (take 7 words) ≡ 7 = seven_words profile Data packet.prologue (take 7 words) refl h.prologue in
    let there : 7 ≤ length words = omega (arith, length-take 7 words) in
    (omega (arith, h.size), omega (arith, h.size, h.whole, ap length h.payload, length-drop 7 words))

-- a prologue and a payload in a row have the words of the packet
pub row_words : (profile : PacketProfile) (packet : DataPacket) (bytes words : List ℕ) → IsData profile packet words → 28 ≤ length bytes
    → take 7 (words_of bytes) ≡ take 7 words → words_of (take 28 bytes ++ packet.payload) ≡ words
row_words profile packet bytes words h room front =
    words_of-append 7 (take 28 bytes) packet.payload (length-take-le 28 bytes room)
    ∙ ap (λ xs. xs ++ words_of packet.payload) (words_of-take 7 bytes ∙ front) ∙ spelled profile packet words h

-- and are its datagram
pub row_datagram : (profile : PacketProfile) (packet : DataPacket) (bytes words : List ℕ) → IsData profile packet words → 28 ≤ length bytes
    → take 7 (words_of bytes) ≡ take 7 words → IsDatagram (IsData profile) packet (take 28 bytes ++ packet.payload)
row_datagram profile packet bytes words h room front =
    let same = row_words profile packet bytes words h room front in
    record {
      whole = omega (arith, length-append (take 28 bytes) packet.payload, length-take-le 28 bytes room, payload_size profile packet words h, ap length same, h.size);
      packet = subst (IsData profile packet) (sym same) h;
    }

-- a packet is spelled by one list of words
one_words : (profile : PacketProfile) (packet : DataPacket) (a b : List ℕ) → AreWords a → AreWords b → IsData profile packet a → IsData profile packet b → a ≡ b
one_words profile packet a b fits fits' p q =
    let front = one_front profile packet.prologue (take 7 a) (take 7 b) (AreWords-take 7 a fits) (AreWords-take 7 b fits') p.prologue.prologue q.prologue.prologue in
    sym (spelled profile packet a p) ∙ ap (λ xs. xs ++ words_of packet.payload) front ∙ spelled profile packet b q

-- and by one list of bytes
pub one_datagram : (profile : PacketProfile) (packet : DataPacket) (a b : List ℕ) → AreBytes a → AreBytes b
    → IsDatagram (IsData profile) packet a → IsDatagram (IsData profile) packet b → a ≡ b
one_datagram profile packet a b fits fits' p q =
    one_spelling a b fits fits' p.whole q.whole
    (one_words profile packet (words_of a) (words_of b) (words_of-words a fits) (words_of-words b fits') p.packet q.packet)
