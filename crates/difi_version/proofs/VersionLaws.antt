-- Laws of version packets: a datagram is one at most, and is refused where a step goes wrong.
use Rattle.std.proofs.Common.{◌≡◌, ℕ, suc, ◌+◌, ◌-◌, ◌<◌, ◌≤◌, ◌^◌, length-drop, List, [], ◌∷◌, ◌++◌, length, take, drop, get_or, Result, Ok, Err, IfOk, IfErr, ◌==◌, zero, inl, inr, refl, sym, ap, ◌∙◌, subst, length-append, arith}
use Rattle.std.proofs.lemmas.Bool.{cases_lt}
use Rattle.vrt_words.specs.Words.{words_of, bits, AreBytes}
use Rattle.vrt_words.specs.Begins.{IsDatagram, IsRefusedAt, IsRefused}
use Rattle.vrt_words.proofs.WordLaws.{length-words_of}
use Rattle.vrt_words.specs.Growing.{AreGrown, IsStoppedAt}
use Rattle.vrt_words.proofs.GrowingLaws.{refused_datagram, refused_datagram_in_front}
use Rattle.vrt_words.proofs.BeginLaws.{behind_front, length-behind, row_behind}
use Rattle.vrt_header.specs.Profile.{PacketProfile}
use Rattle.vrt_header.specs.Prologue.{IsPrologueOf}
use Rattle.vrt_header.proofs.KindLaws.{one_of_kind, seven_words}
use Rattle.difi_version.specs.Version.{IsVersion, cif1_follows, versions_bits}
use Rattle.difi_version.specs.Steps.{IsRight, IsWrongAt}
use Rattle.vrt_header.specs.declared.header.Kind.TheVariants.{Version}
use Rattle.vrt_header.specs.declared.prologue.Prologue.{Prologue}
use Rattle.vrt_words.specs.declared.place.Place.{Place}
use Rattle.difi_version.specs.declared.version.VersionRec.{VersionRec}

-- ---- words spell one version packet

same_version : (a b : VersionRec) → a.prologue ≡ b.prologue → a.changed ≡ b.changed → a.spec ≡ b.spec → a.version ≡ b.version → a ≡ b
same_version a b p q r s = grind arith

pub one_version : (profile : PacketProfile) (a b : VersionRec) (words : List ℕ) → IsVersion profile a words → IsVersion profile b words → a ≡ b
one_version profile a b words p q =
    let prologue = one_of_kind profile Version a.prologue b.prologue (take 7 words) p.prologue q.prologue in
    let changed : a.changed ≡ b.changed = p.changed ∙ sym q.changed in
    let spec : a.spec ≡ b.spec = p.spec ∙ sym q.spec in
    let version : a.version ≡ b.version = p.version ∙ sym q.version in
    same_version a b prologue changed spec version

-- ---- what goes on behind the prologue

-- the words behind it with which a version packet may go on
pub record IsBegun (p : Prologue) (words : List ℕ) : Type 0 where
  pub cif0 : 0 < length words → bits (get_or words 0 0) 0 31 ≡ cif1_follows
  pub cif1 : 1 < length words → get_or words 1 0 ≡ versions_bits
  pub size : length words ≤ 4

-- the next word
abbrev next_word : ℕ → ℕ
next_word zero = cif1_follows
next_word (suc zero) = versions_bits
next_word (suc (suc i)) = 0

next_fits : (i : ℕ) → next_word i < 2 ^ 32
next_fits zero = omega arith
next_fits (suc zero) = omega arith
next_fits (suc (suc i)) = omega arith

next_begun : (p : Prologue) (words : List ℕ) → length words < 4 → IsBegun p words → IsBegun p (words ++ next_word (length words) ∷ [])
next_begun p [] h b = record { cif0 = λ _. refl; cif1 = λ h. absurd (omega arith); size = omega arith }
next_begun p (a ∷ []) h b = record { cif0 = λ _. b.cif0 (omega arith); cif1 = λ _. refl; size = omega arith }
next_begun p (a ∷ c ∷ words) h b =
    record { cif0 = λ _. b.cif0 (omega arith); cif1 = λ _. b.cif1 (omega arith); size = omega (arith, length-append words (0 ∷ [])) }

abbrev version_in : Prologue → List ℕ → VersionRec
version_in p words = record { prologue = p; changed = bits (get_or words 0 0) 31 1 == 1; spec = get_or words 2 0; version = get_or words 3 0 }

whole : (profile : PacketProfile) (p : Prologue) (front words : List ℕ) → IsPrologueOf profile Version p front → IsBegun p words → length words ≡ 4
    → IsVersion profile (version_in p words) (front ++ words)
whole profile p (a ∷ b ∷ c ∷ d ∷ e ∷ f ∷ g ∷ []) (h ∷ i ∷ j ∷ k ∷ []) is begun all = record {
  all = refl;
  prologue = is;
  changed = refl;
  cif0 = begun.cif0 (omega arith);
  cif1 = begun.cif1 (omega arith);
  spec = refl;
  version = refl;
}
whole profile p front words is begun all = absurd (omega (arith, seven_words profile Version p front refl is))

pub grown : (profile : PacketProfile) → AreGrown (IsPrologueOf profile Version) (IsVersion profile) IsBegun (λ p. 4)
grown profile = record {
  front = λ v words h. (v.prologue, (7, h.prologue));
  sound = λ p v front words rest is h.
      let seven = seven_words profile Version p front refl is in
      record {
        cif0 = λ some. ap (λ x. bits x 0 31) (sym (row_behind front words rest 7 0 seven some)) ∙ h.cif0;
        cif1 = λ some. sym (row_behind front words rest 7 1 seven some) ∙ h.cif1;
        size = omega (arith, seven, h.all, length-append front (words ++ rest), length-append words rest);
      };
  start = λ p front is. record { cif0 = λ h. absurd (omega arith); cif1 = λ h. absurd (omega arith); size = omega arith };
  next = λ p front words is fits begun. elim (cases_lt (length words) 4) [
    | inl less ↦ inr (next_word (length words), (next_fits (length words), next_begun p words less begun))
    | inr all ↦ inl (version_in p words, whole profile p front words is begun (omega (arith, begun.size)))
  ];
  bounded = λ p words begun. begun.size;
}

-- ---- refused behind the prologue

begun_of_right : (p : Prologue) (words : List ℕ) (k : ℕ) → 7 + k ≤ length words → IsRight words (7 + k) → IsBegun p (take k (drop 7 words))
begun_of_right p words k there right =
    let long = length-behind 7 k words there in
    record {
      cif0 = λ h. ap (λ x. bits x 0 31) (behind_front 7 k words 0 (omega arith)) ∙ right.cif0 (omega arith);
      cif1 = λ h. behind_front 7 k words 1 (omega arith) ∙ right.cif1 (omega arith);
      size = omega (arith, right.size);
    }

right_of_begun : (p : Prologue) (words : List ℕ) (k : ℕ) → 7 + k ≤ length words → IsBegun p (take k (drop 7 words)) → IsRight words (7 + k)
right_of_begun p words k there b =
    let long = length-behind 7 k words there in
    record {
      cif0 = λ h. ap (λ x. bits x 0 31) (sym (behind_front 7 k words 0 (omega arith))) ∙ b.cif0 (omega arith);
      cif1 = λ h. sym (behind_front 7 k words 1 (omega arith)) ∙ b.cif1 (omega arith);
      size = omega (arith, b.size);
    }

stopped : (p : Prologue) (words : List ℕ) (k : ℕ) → IsWrongAt words (7 + k) → IsStoppedAt (IsBegun p) (drop 7 words) k
stopped p words k wrong = record {
  within = omega (arith, wrong.within, length-drop 7 words);
  begun = begun_of_right p words k wrong.within wrong.right;
  here = λ there b.
      let inside : 7 + k < length words = omega (arith, length-drop 7 words) in
      let next : 7 + suc k ≡ suc (7 + k) = omega arith in
      wrong.here inside (subst (IsRight words) next (right_of_begun p words (suc k) (omega arith) b));
}

pub refused_behind : (profile : PacketProfile) (p : Prologue) (bytes : List ℕ) (place : ℕ) → AreBytes bytes → IsPrologueOf profile Version p (take 7 (words_of bytes))
    → IsWrongAt (words_of bytes) place → (length bytes ≡ 44 → place < 11) → IsRefused (IsVersion profile) bytes place
refused_behind profile p bytes place fits is wrong early =
    let behind : 7 + (place - 7) ≡ place = omega (arith, wrong.behind) in
    let stop = stopped p (words_of bytes) (place - 7) (subst (IsWrongAt (words_of bytes)) (sym behind) wrong) in
    subst (IsRefused (IsVersion profile) bytes) behind
    (refused_datagram (IsPrologueOf profile Version) (IsVersion profile) IsBegun (λ p. 4) (grown profile) p bytes 7 (place - 7) fits (omega (arith, wrong.within, wrong.behind)) is stop
    (λ e v d. absurd (omega (arith, early (omega (arith, d.whole, d.packet.all)), d.packet.all))))

pub refused_in_front : (profile : PacketProfile) (bytes : List ℕ) (place : ℕ) → IsRefusedAt (IsPrologueOf profile Version) (words_of bytes) place
    → ((p : Prologue) (n : ℕ) → ¬ IsPrologueOf profile Version p (take n (words_of bytes))) → IsRefused (IsVersion profile) bytes place
refused_in_front profile bytes place at none =
    refused_datagram_in_front (IsPrologueOf profile Version) (IsVersion profile) IsBegun (λ p. 4) (grown profile) bytes place at none

-- ---- the answer of the decoder

pub right_version : (profile : PacketProfile) (p : Prologue) (rec : VersionRec) (bytes : List ℕ) → IsPrologueOf profile Version p (take 7 (words_of bytes))
    → rec.prologue ≡ p → length bytes ≡ 44 → IsRight (words_of bytes) 11
    → rec.changed ≡ (bits (get_or (words_of bytes) 7 0) 31 1 == 1) → rec.spec ≡ get_or (words_of bytes) 9 0 → rec.version ≡ get_or (words_of bytes) 10 0
    → IsDatagram (IsVersion profile) rec bytes
right_version profile p rec bytes front same size right changed spec version =
    let all : length (words_of bytes) ≡ 11 = omega (arith, length-words_of bytes) in
    record {
      whole = omega arith;
      packet = record {
        all = all;
        prologue = subst (λ (q : Prologue). IsPrologueOf profile Version q (take 7 (words_of bytes))) (sym same) front;
        changed = changed;
        cif0 = right.cif0 (omega arith);
        cif1 = right.cif1 (omega arith);
        spec = spec;
        version = version;
      };
    }

-- the answer of a decoder is the only one
pub one_answer : (profile : PacketProfile) (bytes : List ℕ) (result : Result VersionRec Place) → IfOk result (λ rec. IsDatagram (IsVersion profile) rec bytes)
    → IfErr result (λ place. IsRefused (IsVersion profile) bytes place.word) → (rec : VersionRec) → IsDatagram (IsVersion profile) rec bytes → result ≡ Ok rec
one_answer profile bytes (Ok found) ok refused rec d = ap Ok (one_version profile found rec (words_of bytes) ok.packet d.packet)
one_answer profile bytes (Err place) ok refused rec d = absurd (refused.no_packet rec d)
