-- Laws of acknowledgements: words are one at most, and are refused in the front or in the content.
use Rattle.std.proofs.Common.{◌≡◌, ℕ, ◌*◌, ◌≤◌, ◌⊎◌, inl, inr, true, List, ◌++◌, length, take, drop, Result, Ok, Err, IfOk, IfErr, refl, sym, ap, ◌∙◌, subst, length-append, arith}
use Rattle.std.proofs.lemmas.List.{take_at, drop_at}
use Rattle.vrt_words.specs.Words.{words_of, AreWords, AreBytes}
use Rattle.vrt_words.specs.Begins.{IsDatagram, IsRefused, IsRefusedAt}
use Rattle.vrt_words.proofs.WordLaws.{length-words_of}
use Rattle.vrt_words.specs.declared.place.Place.{Place}
use Rattle.vrt_header.specs.Profile.{PacketProfile}
use Rattle.cam_field.specs.declared.modes.Role.TheVariants as roles
use Rattle.command_prologue.specs.CommandPrologue.{IsCommandPrologue, IsContentSize, command_words}
use Rattle.command_prologue.proofs.CommandPrologueLaws.{one_answer, command_length}
use Rattle.vrt_words.specs.Growing.{AreGrown}
use Rattle.vrt_words.proofs.GrowingLaws.{refused_datagram, refused_datagram_in_front}
use Rattle.command_prologue.specs.declared.prologue.CommandPrologue.{CommandPrologue}
use Rattle.ack_codec.specs.Ack.{front_of, kind_bit, IsContent, IsAck}
use Rattle.ack_codec.specs.Steps.{left_of, IsAckFront, IsBegunKind, IsBegun, IsCutAt}
use Rattle.ack_codec.specs.declared.ack.Ack.{Ack}
use Rattle.ack_codec.proofs.ContentLaws.{one_content}
use Rattle.ack_codec.proofs.SizeLaws.{sized}
use Rattle.command_prologue.proofs.FrontLaws.{front_alone}
use Rattle.ack_codec.proofs.GrowthLaws.{GoesOn, AckWith, begun_content, next_kind, content_of_kind, begun_short, begun_start}

module _ (profile : PacketProfile) where
  -- words have one front
  one_front : (a b : CommandPrologue) (m n : ℕ) (words : List ℕ) → IsCommandPrologue profile roles.Ack a (take m words)
      → IsCommandPrologue profile roles.Ack b (take n words) → a ≡ b
  one_front a b m n words p q =
      let e : Ok a ≡ Ok b = one_answer profile roles.Ack words (Ok a) (m, p) tt b n q in
      cc

  -- the front of an acknowledgement leaves words for its content
  pub front_leaves : (front : CommandPrologue) (words : List ℕ) → IsCommandPrologue profile roles.Ack front words → IsAckFront front
  front_leaves front words h =
      let mode = h.behind.mode in
      let size : left_of front ≡ mode.content = omega (arith, mode.size) in
      record {
        inside = omega (arith, mode.size);
        allowed = subst (IsContentSize roles.Ack front.cam) (sym size) mode.allowed;
        asked = mode.spelled.allowed.asked;
      }

  -- words are one acknowledgement
  pub one_ack : (a b : Ack) (words : List ℕ) → IsAck profile a words → IsAck profile b words → a ≡ b
  one_ack a b words p q =
      let e = one_front (front_of a) (front_of b) (command_words (front_of a)) (command_words (front_of b)) words (sized profile a words p) (sized profile b words q) in
      let leaves = front_leaves (front_of a) (take (command_words (front_of a)) words) (sized profile a words p) in
      one_content a b (drop (command_words (front_of a)) words) leaves.asked e p.kind q.kind p.content
      (subst (λ (f : CommandPrologue). IsContent b (drop (command_words f) words)) (sym e) q.content)

  sound : (front : CommandPrologue) (ack : Ack) (start words rest : List ℕ) → IsCommandPrologue profile roles.Ack front start
      → IsAck profile ack (start ++ (words ++ rest)) → IsBegun front words
  sound front ack start words rest is whole =
      let all = start ++ (words ++ rest) in
      let long = command_length profile roles.Ack front start is in
      let first : take (command_words front) all ≡ start = take_at start (words ++ rest) (command_words front) long in
      let e = one_front (front_of ack) front (command_words (front_of ack)) (command_words front) all (sized profile ack all whole) (subst (IsCommandPrologue profile roles.Ack front) (sym first) is) in
      let behind : drop (command_words (front_of ack)) all ≡ words ++ rest = ap (λ (f : CommandPrologue). drop (command_words f) all) e ∙ drop_at start (words ++ rest) (command_words front) long in
      let size : left_of (front_of ack) ≡ length (words ++ rest) = omega (arith, whole.size, length-append start (words ++ rest), long, ap command_words e) in
      let leaves = front_leaves (front_of ack) (take (command_words (front_of ack)) all) (sized profile ack all whole) in
      let begun = begun_content ack words rest leaves.asked whole.kind (subst (IsContent ack) behind whole.content) in
      subst (λ (f : CommandPrologue). IsBegun f words) e
      (subst (λ n. IsBegunKind (front_of ack).cam.s (front_of ack).cam.warned (front_of ack).cam.erred n words) (sym size) begun)

  -- a front and a whole content
  ack_of : (front : CommandPrologue) (start words : List ℕ) → IsCommandPrologue profile roles.Ack front start → length words ≡ left_of front
      → AckWith front words → (ack : Ack) × IsAck profile ack (start ++ words)
  ack_of front start words is all with_front =
      let ack = with_front.ack in
      let e = with_front.same in
      let long = command_length profile roles.Ack front start is in
      let leaves = front_leaves front start is in
      let first : take (command_words (front_of ack)) (start ++ words) ≡ start =
      ap (λ (f : CommandPrologue). take (command_words f) (start ++ words)) e ∙ take_at start words (command_words front) long in
      let behind : drop (command_words (front_of ack)) (start ++ words) ≡ words =
      ap (λ (f : CommandPrologue). drop (command_words f) (start ++ words)) e ∙ drop_at start words (command_words front) long in
      let size : front.prologue.header.size ≡ length (start ++ words) = omega (arith, leaves.inside, long, all, length-append start words) in (
        ack,
        record {
          front = front_alone profile roles.Ack (front_of ack) _ (subst (IsCommandPrologue profile roles.Ack (front_of ack)) (sym first) (subst (λ (f : CommandPrologue). IsCommandPrologue profile roles.Ack f start) (sym e) is));
          kind = with_front.kind;
          size = ap (λ (f : CommandPrologue). f.prologue.header.size) e ∙ size;
          content = subst (IsContent ack) (sym behind) with_front.content;
        },
      )

  next_word : (front : CommandPrologue) (start words : List ℕ) → IsCommandPrologue profile roles.Ack front start → AreWords words → IsBegun front words
      → ((ack : Ack) × IsAck profile ack (start ++ words)) ⊎ GoesOn (IsBegun front) words
  next_word front start words is fit begun =
      let leaves = front_leaves front start is in
      elim (next_kind front.cam.s front.cam.warned front.cam.erred (left_of front) words leaves.allowed begun) [
        | inl all ↦ inl (ack_of front start words is all (content_of_kind front words front.cam.s refl leaves.asked leaves.allowed fit all begun))
        | inr more ↦ inr more
      ]

  grown : AreGrown (IsCommandPrologue profile roles.Ack) (IsAck profile) IsBegun left_of
  grown = record {
    front = λ ack words h. (front_of ack, (command_words (front_of ack), sized profile ack words h));
    sound = sound;
    start = λ front start is. begun_start front.cam.s front.cam.warned front.cam.erred (left_of front) (front_leaves front start is).allowed;
    next = next_word;
    bounded = λ front words h. begun_short front.cam.s front.cam.warned front.cam.erred (left_of front) words h;
  }

  -- ---- datagrams

  pub refused_in_its_front : (bytes : List ℕ) (place : ℕ) → IsRefusedAt (IsCommandPrologue profile roles.Ack) (words_of bytes) place
      → ((front : CommandPrologue) (n : ℕ) → ¬ IsCommandPrologue profile roles.Ack front (take n (words_of bytes))) → IsRefused (IsAck profile) bytes place
  refused_in_its_front bytes place at none =
      refused_datagram_in_front (IsCommandPrologue profile roles.Ack) (IsAck profile) IsBegun left_of grown bytes place at none

  pub refused_in_its_content : (front : CommandPrologue) (bytes : List ℕ) (place : ℕ) → AreBytes bytes → command_words front ≤ length (words_of bytes)
      → IsCommandPrologue profile roles.Ack front (take (command_words front) (words_of bytes))
      → IsCutAt (IsBegun front) (command_words front) front.prologue.header.size bytes place → IsRefused (IsAck profile) bytes place
  refused_in_its_content front bytes place fit inside is cut =
      let words = words_of bytes in
      subst (IsRefused (IsAck profile) bytes) (sym cut.told)
      (refused_datagram (IsCommandPrologue profile roles.Ack) (IsAck profile) IsBegun left_of grown front bytes (command_words front) cut.behind fit inside is cut.stopped
      (λ e ack d.
      let same = one_front (front_of ack) front (command_words (front_of ack)) (command_words front) words (sized profile ack words d.packet) is in
      let size : front.prologue.header.size ≡ length words = ap (λ (f : CommandPrologue). f.prologue.header.size) (sym same) ∙ d.packet.size in
      cut.unfinished (cut.told ∙ e) (omega (arith, d.whole, size))))

  -- a front, a content behind it, and the length of the size
  pub right_ack : (front : CommandPrologue) (ack : Ack) (bytes : List ℕ) → IsCommandPrologue profile roles.Ack front (take (command_words front) (words_of bytes))
      → front_of ack ≡ front → kind_bit ack ≡ true → IsContent ack (drop (command_words front) (words_of bytes)) → length bytes ≡ 4 * front.prologue.header.size
      → IsDatagram (IsAck profile) ack bytes
  right_ack front ack bytes is same kind content size =
      let words = words_of bytes in
      let count = length-words_of bytes in
      let all : front.prologue.header.size ≡ length words = omega arith in
      let e = sym same in
      record {
        whole = omega arith;
        packet = record {
          front = front_alone profile roles.Ack (front_of ack) _ (subst (λ (f : CommandPrologue). IsCommandPrologue profile roles.Ack f (take (command_words f) words)) e is);
          kind = kind;
          size = ap (λ (f : CommandPrologue). f.prologue.header.size) same ∙ all;
          content = subst (λ (f : CommandPrologue). IsContent ack (drop (command_words f) words)) e content;
        };
      }

  -- the answer of a decoder is the only one
  pub one_decoded : (bytes : List ℕ) (result : Result Ack Place) → IfOk result (λ ack. IsDatagram (IsAck profile) ack bytes)
      → IfErr result (λ place. IsRefused (IsAck profile) bytes place.word) → (ack : Ack) → IsDatagram (IsAck profile) ack bytes → result ≡ Ok ack
  one_decoded bytes (Ok found) ok refused ack d = ap Ok (one_ack found ack (words_of bytes) ok.packet d.packet)
  one_decoded bytes (Err place) ok refused ack d = absurd (refused.no_packet ack d)
