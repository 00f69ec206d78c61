-- Laws of data packets: a datagram is one at most, and is refused in its prologue or where its length goes wrong.
use Rattle.std.proofs.Common.{◌≡◌, ℕ, zero, suc, ◌+◌, ◌-◌, ◌*◌, ◌≤◌, Bool, true, List, [], ◌∷◌, ◌++◌, length, take, drop, Result, Ok, Err, IfOk, IfErr, IsOkAnd, inl, inr, refl, sym, ap, ◌∙◌, subst, length-append, length-drop, min, arith}
use Rattle.std.proofs.lemmas.Bool.{cases_lt}
use Rattle.std.specs.List.{flat_map}
use Rattle.std.specs.Int.{bytes_high_first}
use Rattle.std.proofs.lemmas.List.{take_at, drop_at}
use Rattle.vrt_words.specs.Words.{words_of, AreWords, AreBytes}
use Rattle.vrt_words.specs.Begins.{IsDatagram, IsRefusedAt, IsRefused}
use Rattle.vrt_words.proofs.WordLaws.{length-words_of, words_of-drop, words_of-spelled, length-spelled, one_spelling, AreBytes-drop}
use Rattle.vrt_words.specs.Growing.{AreGrown, IsStoppedAt}
use Rattle.vrt_words.specs.Sizes.{IsOtherSize}
use Rattle.vrt_words.proofs.GrowingLaws.{refused_datagram, refused_datagram_in_front}
use Rattle.vrt_words.proofs.BeginLaws.{length-behind}
use Rattle.vrt_header.specs.Profile.{PacketProfile}
use Rattle.vrt_header.specs.Header.{is_size}
use Rattle.vrt_header.specs.Prologue.{IsPrologueOf}
use Rattle.vrt_header.proofs.KindLaws.{one_of_kind, seven_words}
use Rattle.difi_data.specs.Data.{DataPacket, IsData, packet_of}
use Rattle.vrt_words.specs.declared.place.Place.{Place}
use Rattle.vrt_header.specs.declared.header.Kind.{Kind}
use Rattle.vrt_header.specs.declared.header.Kind.TheVariants.{Data}
use Rattle.vrt_header.specs.declared.prologue.Prologue.{Prologue}
use Rattle.difi_data.specs.declared.packet.DataRec.{DataRec}

-- ---- words spell one data packet

same_packet : (a b : DataPacket) → a.prologue ≡ b.prologue → a.payload ≡ b.payload → a ≡ b
same_packet a b p q = grind arith

pub one_data : (profile : PacketProfile) (a b : DataPacket) (words : List ℕ) → IsData profile a words → IsData profile b words → a ≡ b
one_data profile a b words p q =
    same_packet a b (one_of_kind profile Data a.prologue b.prologue (take 7 words) p.prologue q.prologue)
    (one_spelling a.payload b.payload p.octets q.octets p.whole q.whole (p.payload ∙ sym q.payload))

-- the bytes that spell words
spelled_bytes : (ws : List ℕ) → AreBytes (flat_map (bytes_high_first 4) ws)
spelled_bytes [] i = omega arith
spelled_bytes (w ∷ ws) zero = omega arith
spelled_bytes (w ∷ ws) (suc zero) = omega arith
spelled_bytes (w ∷ ws) (suc (suc zero)) = omega arith
spelled_bytes (w ∷ ws) (suc (suc (suc zero))) = omega arith
spelled_bytes (w ∷ ws) (suc (suc (suc (suc i)))) = spelled_bytes ws i

-- ---- what goes on behind the prologue

data_size : (kind : Kind) (timed : Bool) (size : ℕ) → is_size kind timed size ≡ true → kind ≡ Data → (8 ≤ size) × (size ≤ 16376)
data_size Data timed size h e = (grind arith, grind arith)
data_size kind timed size h e = absurd (cc)

-- any words may follow, up to the size
abbrev pub IsBegun : Prologue → List ℕ → Type 0
IsBegun p words = 7 + length words ≤ p.header.size

abbrev pub size_in : Prologue → ℕ
size_in p = p.header.size

packet_in : Prologue → List ℕ → DataPacket
packet_in p words = record { prologue = p; payload = flat_map (bytes_high_first 4) words }

whole : (profile : PacketProfile) (p : Prologue) (front words : List ℕ) → IsPrologueOf profile Data p front → AreWords words → 7 + length words ≡ p.header.size
    → IsData profile (packet_in p words) (front ++ words)
unfolding packet_in
whole profile p front words is fits all =
    let seven = seven_words profile Data p front refl is in
    let spelled : words_of (flat_map (bytes_high_first 4) words) ≡ words = words_of-spelled words fits in
    record {
      prologue = subst (IsPrologueOf profile Data p) (sym (take_at front words 7 seven)) is;
      size = omega (arith, length-append front words);
      octets = spelled_bytes words;
      whole = length-spelled words ∙ ap (λ ws. 4 * length ws) (sym spelled);
      payload = spelled ∙ sym (drop_at front words 7 seven);
    }

-- the prologue in front tells the size
one_size : (profile : PacketProfile) (p : Prologue) (v : DataPacket) (words : List ℕ) → IsPrologueOf profile Data p (take 7 words) → IsData profile v words
    → length words ≡ p.header.size
one_size profile p v words is h = sym h.size ∙ ap size_in (one_of_kind profile Data v.prologue p (take 7 words) h.prologue is)

begun_front : (profile : PacketProfile) (p : Prologue) (v : DataPacket) (front words rest : List ℕ) → IsPrologueOf profile Data p front
    → IsData profile v (front ++ (words ++ rest)) → IsBegun p words
begun_front profile p v front words rest is h =
    let seven = seven_words profile Data p front refl is in
    let mine : IsPrologueOf profile Data p (take 7 (front ++ (words ++ rest))) = subst (IsPrologueOf profile Data p) (sym (take_at front (words ++ rest) 7 seven)) is in
    omega (arith, one_size profile p v (front ++ (words ++ rest)) mine h, length-append front (words ++ rest), length-append words rest)

pub grown : (profile : PacketProfile) → AreGrown (IsPrologueOf profile Data) (IsData profile) IsBegun size_in
grown profile = record {
  front = λ v words h. (v.prologue, (7, h.prologue));
  sound = begun_front profile;
  start = λ p front is. omega (arith, data_size p.header.kind p.header.timed p.header.size is.prologue.header.size_allowed is.kind);
  next = λ p front words is fits b. elim (cases_lt (7 + length words) p.header.size) [
    | inl less ↦ inr (0, (omega arith, omega (arith, length-append words (0 ∷ []))))
    | inr all ↦ inl (packet_in p words, whole profile p front words is fits (omega arith))
  ];
  bounded = λ p words b. omega arith;
}

-- ---- refusals

pub refused_in_front : (profile : PacketProfile) (bytes : List ℕ) (place : ℕ) → IsRefusedAt (IsPrologueOf profile Data) (words_of bytes) place
    → ((p : Prologue) (n : ℕ) → ¬ IsPrologueOf profile Data p (take n (words_of bytes))) → IsRefused (IsData profile) bytes place
refused_in_front profile bytes place at none =
    refused_datagram_in_front (IsPrologueOf profile Data) (IsData profile) IsBegun size_in (grown profile) bytes place at none

-- the words go on up to the size, or to their end
stopped : (p : Prologue) (words : List ℕ) (k : ℕ) → 7 ≤ length words → 7 + k ≡ min (length words) p.header.size → IsStoppedAt (IsBegun p) (drop 7 words) k
stopped p words k seven e =
    let rest = length-drop 7 words in
    record {
      within = omega (arith, rest);
      begun = omega (arith, length-behind 7 k words (omega arith));
      here = λ there b. absurd (omega (arith, rest, length-behind 7 (suc k) words (omega (arith, rest))));
    }

pub refused_behind : (profile : PacketProfile) (p : Prologue) (bytes : List ℕ) (place : ℕ) → AreBytes bytes → IsPrologueOf profile Data p (take 7 (words_of bytes))
    → 7 ≤ length (words_of bytes) → IsOtherSize p.header.size bytes place → IsRefused (IsData profile) bytes place
refused_behind profile p bytes place fits is seven other =
    let size = data_size p.header.kind p.header.timed p.header.size is.prologue.header.size_allowed is.kind in
    let behind : 7 + (place - 7) ≡ place = omega (arith, other.place_told) in
    let stop = stopped p (words_of bytes) (place - 7) seven (behind ∙ other.place_told) in
    subst (IsRefused (IsData profile) bytes) behind
    (refused_datagram (IsPrologueOf profile Data) (IsData profile) IsBegun size_in (grown profile) p bytes 7 (place - 7) fits seven is stop
    (λ e v d. other.other (d.whole ∙ ap (λ n. 4 * n) (one_size profile p v (words_of bytes) is d.packet))))

-- ---- the answer of the decoder

pub right_data : (profile : PacketProfile) (packet : DataPacket) (bytes : List ℕ) → AreBytes bytes → IsPrologueOf profile Data packet.prologue (take 7 (words_of bytes))
    → packet.payload ≡ drop 28 bytes → length bytes ≡ 4 * packet.prologue.header.size → IsDatagram (IsData profile) packet bytes
right_data profile packet bytes fits front rest size =
    let count = length-words_of bytes in
    let words : words_of packet.payload ≡ drop 7 (words_of bytes) = ap words_of rest ∙ words_of-drop 7 bytes in
    record {
      whole = omega arith;
      packet = record {
        prologue = front;
        size = omega arith;
        octets = subst AreBytes (sym rest) (AreBytes-drop 28 bytes fits);
        whole = omega (arith, ap length words, ap length rest, length-drop 28 bytes, length-drop 7 (words_of bytes));
        payload = words;
      };
    }

-- the answer of a decoder is the only one
pub one_answer : (profile : PacketProfile) (bytes : List ℕ) (result : Result DataRec Place) → IfOk result (λ rec. IsDatagram (IsData profile) (packet_of rec) bytes)
    → IfErr result (λ place. IsRefused (IsData profile) bytes place.word) → (packet : DataPacket) → IsDatagram (IsData profile) packet bytes
    → IsOkAnd result (λ rec. packet_of rec ≡ packet)
one_answer profile bytes (Ok found) ok refused packet d = one_data profile (packet_of found) packet (words_of bytes) ok.packet d.packet
one_answer profile bytes (Err place) ok refused packet d = absurd (refused.no_packet packet d)
