-- Where packets are refused whose content is a word with a rule and then free words up to the size.
use Rattle.std.proofs.Common.{◌≡◌, ℕ, ◌≢◌, suc, ◌+◌, ◌-◌, ◌*◌, ◌^◌, ◌<◌, ◌≤◌, ◌⊎◌, inl, inr, List, [], ◌∷◌, ◌++◌, length, take, drop, get_or, sym, ap, ◌∙◌, subst, length-append, length-drop, take-append-drop, arith}
use Rattle.std.proofs.lemmas.Bool.{cases_lt}
use Rattle.std.proofs.lemmas.List.{length-take-le}
use Rattle.std.proofs.Math.Seq.{drop-cons}
use Rattle.vrt_words.specs.Words.{words_of, AreWords, AreBytes}
use Rattle.vrt_words.specs.Begins.{IsDatagram, IsRefusedAt, IsRefused}
use Rattle.vrt_words.proofs.WordLaws.{length-words_of}
use Rattle.vrt_header.specs.Profile.{PacketProfile}
use Rattle.cam_field.specs.declared.modes.Role.{Role}
use Rattle.command_prologue.specs.CommandPrologue.{IsCommandPrologue, command_words}
use Rattle.command_prologue.proofs.CommandPrologueLaws.{one_before, command_length}
use Rattle.vrt_words.specs.Growing.{AreGrown, IsStoppedAt}
use Rattle.vrt_words.proofs.GrowingLaws.{refused_datagram, refused_datagram_in_front}
use Rattle.command_prologue.specs.declared.prologue.CommandPrologue.{CommandPrologue}
use Rattle.command_codec.specs.FirstWord.{AreByFirst, IsRefusedBehind, missing, wrong, other}

module _ {V : Type 0} (profile : PacketProfile) (role : Role) (IsFirst : CommandPrologue → ℕ → Type 0) (IsWhole : V → List ℕ → Type 0)
    (by : AreByFirst profile role IsFirst IsWhole) where
  -- words behind the prologue with which a packet may go on
  abbrev IsBegun : CommandPrologue → List ℕ → Type 0
  IsBegun front [] = Unit {0}
  IsBegun front (x ∷ rest) = IsFirst front x × (command_words front + suc (length rest) ≤ front.prologue.header.size)

  abbrev most : CommandPrologue → ℕ
  most front = front.prologue.header.size

  bounded : (front : CommandPrologue) (words : List ℕ) → IsBegun front words → length words ≤ most front
  bounded front [] h = omega arith
  bounded front (x ∷ rest) h = omega (arith, h.1)

  same_first : (front : CommandPrologue) (x y : ℕ) (xs ys : List ℕ) → x ∷ xs ≡ y ∷ ys → IsFirst front y → IsFirst front x
  same_first front x y xs ys e h = let same : x ≡ y = cc in subst (IsFirst front) (sym same) h

  sound : (front : CommandPrologue) (v : V) (start words rest : List ℕ) → IsCommandPrologue profile role front start → IsWhole v (start ++ (words ++ rest)) → IsBegun front words
  sound front v start [] rest is whole = tt
  sound front v start (x ∷ words) rest is whole =
      let h = by.has v (start ++ (x ∷ (words ++ rest))) whole in
      let one = one_before profile role front h.front start (x ∷ (words ++ rest)) is h.is_front in
      let first : IsFirst front h.first = subst (λ (f : CommandPrologue). IsFirst f h.first) one.0 h.is_first in
      let row : x ∷ (words ++ rest) ≡ h.first ∷ h.rest = sym one.1 ∙ h.behind in
      let size : front.prologue.header.size ≡ length (start ++ (x ∷ (words ++ rest))) = ap (λ (f : CommandPrologue). f.prologue.header.size) (sym one.0) ∙ h.size in (
        same_first front x h.first (words ++ rest) h.rest row first,
        omega (arith, size, command_length profile role front start is, length-append start (x ∷ (words ++ rest)), length-append words rest),
      )

  next : (front : CommandPrologue) (start words : List ℕ) → IsCommandPrologue profile role front start → AreWords words → IsBegun front words
      → ((v : V) × IsWhole v (start ++ words)) ⊎ ((x : ℕ) × ((x < 2 ^ 32) × IsBegun front (words ++ x ∷ [])))
  next front start [] is fit begun =
      let x = by.there front start is in
      inr (x.0, (x.1, (x.2, omega (arith, x.3))))
  next front start (x ∷ words) is fit begun = elim (cases_lt (command_words front + suc (length words)) front.prologue.header.size) [
    | inl less ↦ inr (0, (omega arith, (begun.0, omega (arith, length-append words (0 ∷ [])))))
    | inr all ↦ inl (by.whole front start x words is begun.0 (λ i. fit (suc i)) (omega (arith, begun.1)))
  ]

  grown : AreGrown (IsCommandPrologue profile role) IsWhole IsBegun most
  grown = record {
    front = λ v words h. let p = by.has v words h in (p.front, (command_words p.front, p.is_front));
    sound = sound;
    start = λ front words h. tt;
    next = next;
    bounded = bounded;
  }

  pub refused_in_prologue : (bytes : List ℕ) (place : ℕ) → IsRefusedAt (IsCommandPrologue profile role) (words_of bytes) place
      → ((front : CommandPrologue) (n : ℕ) → ¬ IsCommandPrologue profile role front (take n (words_of bytes))) → IsRefused IsWhole bytes place
  refused_in_prologue bytes place at none = refused_datagram_in_front (IsCommandPrologue profile role) IsWhole IsBegun most grown bytes place at none

  module _ (front : CommandPrologue) (bytes : List ℕ) (fit : AreBytes bytes) (there : command_words front ≤ length (words_of bytes))
      (is : IsCommandPrologue profile role front (take (command_words front) (words_of bytes))) where
    -- a packet that is the datagram has the size of the prologue
    whole_size : (v : V) → IsDatagram IsWhole v bytes → length bytes ≡ 4 * front.prologue.header.size
    whole_size v d =
        let m = command_words front in
        let words = words_of bytes in
        let h = by.has v words d.packet in
        let row : take m words ++ drop m words ≡ words = take-append-drop m words in
        let one = one_before profile role front h.front (take m words) (drop m words) is
        (subst (λ xs. IsCommandPrologue profile role h.front (take (command_words h.front) xs)) (sym row) h.is_front) in
        d.whole ∙ ap (λ n. 4 * n) (sym h.size ∙ ap (λ (f : CommandPrologue). f.prologue.header.size) one.0)

    refused_at : (k : ℕ) → IsStoppedAt (IsBegun front) (drop (command_words front) (words_of bytes)) k
        → (command_words front + k ≡ length (words_of bytes) → length bytes ≢ 4 * front.prologue.header.size) → IsRefused IsWhole bytes (command_words front + k)
    refused_at k stop unlike =
        refused_datagram (IsCommandPrologue profile role) IsWhole IsBegun most grown front bytes (command_words front) k fit there is stop
        (λ e v d. unlike e (whole_size v d))

    first_behind : command_words front < length (words_of bytes) → drop (command_words front) (words_of bytes)
        ≡ get_or (words_of bytes) (command_words front) 0 ∷ drop (suc (command_words front)) (words_of bytes)
    first_behind h = drop-cons (words_of bytes) (command_words front) 0 h

    stopped_at_first : command_words front < length (words_of bytes) → ¬ IsFirst front (get_or (words_of bytes) (command_words front) 0)
        → IsStoppedAt (IsBegun front) (drop (command_words front) (words_of bytes)) 0
    stopped_at_first h bad =
        subst (λ xs. IsStoppedAt (IsBegun front) xs 0) (sym (first_behind h))
        (record { within = omega arith; begun = tt; here = λ _ begun. bad begun.0 })

    stopped_at_size : (j : ℕ) → command_words front < length (words_of bytes) → IsFirst front (get_or (words_of bytes) (command_words front) 0)
        → command_words front + suc j ≤ length (words_of bytes) → command_words front + suc j ≤ front.prologue.header.size
        → (command_words front + suc j < length (words_of bytes) → command_words front + suc j ≡ front.prologue.header.size)
        → IsStoppedAt (IsBegun front) (drop (command_words front) (words_of bytes)) (suc j)
    stopped_at_size j h first within inside end =
        let m = command_words front in
        let words = words_of bytes in
        let rest = drop (suc m) words in
        let long = length-drop (suc m) words in
        subst (λ xs. IsStoppedAt (IsBegun front) xs (suc j)) (sym (first_behind h)) (record {
          within = omega (arith, long);
          begun = (first, omega (arith, length-take-le j rest (omega (arith, long))));
          here = λ less begun. absurd (omega (arith, begun.1, long, length-take-le (suc j) rest (omega (arith, long)), end (omega (arith, long))));
        })

    pub refused_by_cut : (place : ℕ) → command_words front < front.prologue.header.size → IsRefusedBehind IsFirst front bytes place → IsRefused IsWhole bytes place
    refused_by_cut place some (missing none e) =
        let m = command_words front in
        let words = words_of bytes in
        let count = length-words_of bytes in
        let at : m + 0 ≡ place = omega arith in
        subst (IsRefused IsWhole bytes) at (refused_at 0
        (record { within = omega arith; begun = tt; here = λ h. absurd (omega (arith, length-drop m words)) }) (λ _ e. absurd (omega arith)))
    refused_by_cut place some (wrong h e bad) =
        let m = command_words front in
        let at : m + 0 ≡ place = omega arith in
        subst (IsRefused IsWhole bytes) at (refused_at 0 (stopped_at_first h bad) (λ e _. absurd (omega arith)))
    refused_by_cut place some (other h first size) =
        let m = command_words front in
        let words = words_of bytes in
        let told = size.place_told in
        let at : m + suc (place - suc m) ≡ place = omega arith in
        subst (IsRefused IsWhole bytes) at (refused_at (suc (place - suc m))
        (stopped_at_size (place - suc m) h first (omega arith) (omega arith) (λ less. omega arith)) (λ _. size.other))
