-- Laws of packets that are a front and a content behind it, as commands and cancellations are: words are one at most, and
-- each is spelled by one list of words.
use Rattle.std.proofs.Common.{◌≡◌, ℕ, ◌+◌, ◌*◌, List, ◌++◌, length, take, drop, Result, Ok, Err, IfOk, IfErr, sym, ap, ◌∙◌, subst, length-append, length-drop, take-append-drop, arith}
use Rattle.std.proofs.lemmas.List.{length-take, take_at, drop_at}
use Rattle.vrt_words.specs.Words.{words_of, AreWords, AreBytes}
use Rattle.vrt_words.specs.Begins.{IsDatagram, IsRefused}
use Rattle.vrt_words.proofs.WordLaws.{length-words_of, words_of-words, one_spelling, AreWords-take}
use Rattle.vrt_header.specs.Profile.{PacketProfile}
use Rattle.cam_field.specs.declared.modes.Role.{Role}
use Rattle.command_prologue.specs.CommandPrologue.{IsContentSize, IsFront, IsCommandPrologue, command_words}
use Rattle.command_prologue.proofs.CommandPrologueLaws.{one_in_front, command_length}
use Rattle.command_prologue.proofs.FrontLaws.{length-front, front_alone, front_with_room}
use Rattle.command_prologue.proofs.SpellingLaws as front_spelling
use Rattle.command_prologue.specs.declared.prologue.CommandPrologue.{CommandPrologue}
use Rattle.vrt_words.specs.declared.place.Place.{Place}

-- the front of the packet, its content, and a size that counts all words
pub record IsInParts {V : Type 0} (profile : PacketProfile) (role : Role) (front_of : V → CommandPrologue) (IsContent : V → List ℕ → Type 0) (v : V) (words : List ℕ) : Type 0 where
  pub front : IsFront profile role (front_of v) (take (command_words (front_of v)) words)
  pub content : IsContent v (drop (command_words (front_of v)) words)
  pub size : (front_of v).prologue.header.size ≡ length words

-- the packets are those in these parts; a content has a size for the role, belongs to one packet with its front, and has one
-- spelling
pub record AreInParts {V : Type 0} (profile : PacketProfile) (role : Role) (front_of : V → CommandPrologue) (IsContent : V → List ℕ → Type 0) (IsWhole : V → List ℕ → Type 0) : Type 0 where
  pub parts : (v : V) (words : List ℕ) → IsWhole v words → IsInParts profile role front_of IsContent v words
  pub whole : (v : V) (words : List ℕ) → IsInParts profile role front_of IsContent v words → IsWhole v words
  pub fits : (v : V) (words : List ℕ) → IsContent v words → IsContentSize role (front_of v).cam (length words)
  pub one_value : (a b : V) (words : List ℕ) → front_of a ≡ front_of b → IsContent a words → IsContent b words → a ≡ b
  pub one_content : (v : V) (a b : List ℕ) → IsContent v a → IsContent v b → a ≡ b

module _ {V : Type 0} (profile : PacketProfile) (role : Role) (front_of : V → CommandPrologue) (IsContent : V → List ℕ → Type 0) (IsWhole : V → List ℕ → Type 0)
    (by : AreInParts profile role front_of IsContent IsWhole) where
  pub all_words : (v : V) (words : List ℕ) → IsWhole v words → length words ≡ command_words (front_of v) + length (drop (command_words (front_of v)) words)
  all_words v words h =
      let m = command_words (front_of v) in
      omega (arith, length-front profile role (front_of v) (take m words) (by.parts v words h).front, length-take m words, length-drop m words)

  -- the words in front leave room for the content
  pub sized : (v : V) (words : List ℕ) → IsWhole v words → IsCommandPrologue profile role (front_of v) (take (command_words (front_of v)) words)
  sized v words h =
      let m = command_words (front_of v) in
      let p = by.parts v words h in
      front_with_room profile role (front_of v) (take m words) (length (drop m words)) p.front (p.size ∙ all_words v words h) (by.fits v (drop m words) p.content)

  -- words are one packet
  pub one_packet : (a b : V) (words : List ℕ) → IsWhole a words → IsWhole b words → a ≡ b
  one_packet a b words p q =
      let front = one_in_front profile role (front_of a) (front_of b) (command_words (front_of a)) (command_words (front_of b)) words (sized a words p) (sized b words q) in
      by.one_value a b (drop (command_words (front_of a)) words) front (by.parts a words p).content
      (subst (λ (f : CommandPrologue). IsContent b (drop (command_words f) words)) (sym front) (by.parts b words q).content)

  -- a packet has one list of words, and of bytes
  one_words : (v : V) (a b : List ℕ) → AreWords a → AreWords b → IsWhole v a → IsWhole v b → a ≡ b
  one_words v a b fit fit' p q =
      let m = command_words (front_of v) in
      let front = front_spelling.one_words profile role (front_of v) (take m a) (take m b) (AreWords-take m a fit) (AreWords-take m b fit') (sized v a p) (sized v b q) in
      let content = by.one_content v (drop m a) (drop m b) (by.parts v a p).content (by.parts v b q).content in
      sym (take-append-drop m a) ∙ ap (λ xs. xs ++ drop m a) front ∙ ap (λ xs. take m b ++ xs) content ∙ take-append-drop m b

  pub one_datagram : (v : V) (a b : List ℕ) → AreBytes a → AreBytes b → IsDatagram IsWhole v a → IsDatagram IsWhole v b → a ≡ b
  one_datagram v a b fit fit' p q =
      one_spelling a b fit fit' p.whole q.whole (one_words v (words_of a) (words_of b) (words_of-words a fit) (words_of-words b fit') p.packet q.packet)

  -- the answer of a decoder is the only one
  pub one_answer : (bytes : List ℕ) (result : Result V Place) → IfOk result (λ v. IsDatagram IsWhole v bytes)
      → IfErr result (λ place. IsRefused IsWhole bytes place.word) → (v : V) → IsDatagram IsWhole v bytes → result ≡ Ok v
  one_answer bytes (Ok found) ok refused v d = ap Ok (one_packet found v (words_of bytes) ok.packet d.packet)
  one_answer bytes (Err place) ok refused v d = absurd (refused.no_packet v d)

  -- a front and a content behind it are the packet
  pub made : (v : V) (words content : List ℕ) → IsCommandPrologue profile role (front_of v) words → IsContent v content
      → (front_of v).prologue.header.size ≡ command_words (front_of v) + length content → IsWhole v (words ++ content)
  made v words content is h size =
      let m = command_words (front_of v) in
      let long : length words ≡ m = command_length profile role (front_of v) words is in
      by.whole v (words ++ content) (record {
        front = front_alone profile role (front_of v) _ (subst (IsCommandPrologue profile role (front_of v)) (sym (take_at words content m long)) is);
        content = subst (IsContent v) (sym (drop_at words content m long)) h;
        size = size ∙ sym (length-append words content ∙ ap (λ n. n + length content) long);
      })

  -- and so are those that a reader finds in a datagram of its size
  pub right : (v : V) (bytes : List ℕ) → AreBytes bytes → IsCommandPrologue profile role (front_of v) (take (command_words (front_of v)) (words_of bytes))
      → length bytes ≡ 4 * (front_of v).prologue.header.size → IsContent v (drop (command_words (front_of v)) (words_of bytes)) → IsDatagram IsWhole v bytes
  right v bytes fit front size content =
      let count = length-words_of bytes in
      record {
        whole = omega arith;
        packet = by.whole v (words_of bytes) (record { front = front_alone profile role (front_of v) _ front; size = omega arith; content = content });
      }
