-- Laws of headers and prologues: the words determine them, and they are refused where a step goes wrong.
use Rattle.std.proofs.Common.{◌≡◌, ℕ, zero, suc, ◌+◌, ◌^◌, ◌<◌, ◌≤◌, Bool, true, false, List, [], ◌∷◌, ◌++◌, length, take, drop, get_or, Option, Some, None, Result, Ok, Err, IfOk, IfErr, min, inl, inr, refl, sym, ap, ◌∙◌, subst, arith}
use Rattle.std.proofs.lemmas.Bool.{cases_lt}
use Rattle.std.proofs.lemmas.List.{get_or-take, length-take, length-take-le, take_min}
use Rattle.vrt_words.specs.Words.{bits, AreWords}
use Rattle.vrt_words.specs.Begins.{Begins, IsRefusedAt}
use Rattle.vrt_words.proofs.WordLaws.{AreWords-nil, AreWords-cons, AreWords-drop}
use Rattle.vrt_words.proofs.BeginLaws.{refused_by_steps, filled, length-filled, filled_front, filled_behind, begun_words}
use Rattle.vrt_time.specs.Time.{TimeStamp, stamp_of, fraction_of}
use Rattle.vrt_header.specs.Profile.{PacketProfile, IsProfile}
use Rattle.vrt_header.specs.Header.{IsKind, IsTimed, IsHeader, prologue_words}
use Rattle.vrt_header.specs.Prologue.{IsPad, IsClassWord, IsClass, IsStamped, IsPrologue}
use Rattle.vrt_header.specs.Steps.{IsRight, IsWrongAt, IsUnstampedAt}
use Rattle.vrt_words.specs.declared.place.Place.{Place}
use Rattle.vrt_header.specs.declared.header.Kind.{Kind}
use Rattle.vrt_header.specs.declared.header.Kind.TheVariants.{Data, Context, Version, Control, Cancel, Ack}
use Rattle.vrt_header.specs.declared.header.Header.{Header}
use Rattle.vrt_header.specs.declared.prologue.Prologue.{Prologue}

-- a word has one kind
pub one_kind : (a b : Kind) (word : ℕ) → IsKind a word → IsKind b word → a ≡ b
one_kind Data Data word p q = refl
one_kind Context Context word p q = refl
one_kind Version Version word p q = refl
one_kind Control Control word p q = refl
one_kind Cancel Cancel word p q = refl
one_kind Ack Ack word p q = refl
one_kind a b word p q = absurd (omega arith)

one_timed : (tsi : ℕ) (kind : Kind) (a b : Bool) (word : ℕ) → IsTimed tsi kind a word → IsTimed tsi kind b word → a ≡ b
one_timed tsi kind true true word p q = refl
one_timed tsi kind false false word p q = refl
one_timed tsi kind a b word p q = absurd (omega arith)

same_header : (a b : Header) → a.kind ≡ b.kind → a.bit25 ≡ b.bit25 → a.bit24 ≡ b.bit24 → a.timed ≡ b.timed → a.count ≡ b.count → a.size ≡ b.size → a ≡ b
same_header a b p q r s t u = grind arith

same_prologue : (a b : Prologue) → a.header ≡ b.header → a.stream ≡ b.stream → a.pad ≡ b.pad → a.information ≡ b.information → a.packet ≡ b.packet → a.stamp ≡ b.stamp → a ≡ b
same_prologue a b p q r s t u = grind arith

-- a word spells one header
pub one_header : (profile : PacketProfile) (a b : Header) (word : ℕ) → IsHeader profile a word → IsHeader profile b word → a ≡ b
one_header profile a b word p q =
    let kind = one_kind a.kind b.kind word p.kind q.kind in
    let timed = one_timed profile.tsi a.kind a.timed b.timed word p.time (subst (λ (k : Kind). IsTimed profile.tsi k b.timed word) (sym kind) q.time) in
    let bit25 : a.bit25 ≡ b.bit25 = p.bit25 ∙ sym q.bit25 in
    let bit24 : a.bit24 ≡ b.bit24 = p.bit24 ∙ sym q.bit24 in
    let count : a.count ≡ b.count = p.count ∙ sym q.count in
    let size : a.size ≡ b.size = p.size ∙ sym q.size in
    same_header a b kind bit25 bit24 timed count size

one_stamp : (timed : Bool) (a b : Option TimeStamp) (words : List ℕ) → IsStamped timed a words → IsStamped timed b words → a ≡ b
one_stamp true a b words p q = p.1 ∙ sym q.1
one_stamp false a b words p q = p ∙ sym q

-- words spell one prologue
pub one_prologue : (profile : PacketProfile) (a b : Prologue) (words : List ℕ) → IsPrologue profile a words → IsPrologue profile b words → a ≡ b
one_prologue profile a b words p q =
    let header = one_header profile a.header b.header (get_or words 0 0) p.header q.header in
    let stamp = one_stamp a.header.timed a.stamp b.stamp words p.stamp (subst (λ (h : Header). IsStamped h.timed b.stamp words) (sym header) q.stamp) in
    let stream : a.stream ≡ b.stream = p.stream ∙ sym q.stream in
    let pad : a.pad ≡ b.pad = p.pad ∙ sym q.pad in
    let information : a.information ≡ b.information = p.information ∙ sym q.information in
    let packet : a.packet ≡ b.packet = p.packet ∙ sym q.packet in
    same_prologue a b header stream pad information packet stamp

-- ---- where the words of a prologue are right

-- lists that agree below k
abbrev pub Agree : ℕ → List ℕ → List ℕ → Type 0
Agree k xs ys = (i : ℕ) → i < k → get_or xs i 0 ≡ get_or ys i 0

four_or_more : (timed : Bool) → 4 ≤ prologue_words timed
four_or_more true = omega arith
four_or_more false = omega arith

front_stamped : (timed : Bool) (stamp : Option TimeStamp) (words : List ℕ) → IsStamped timed stamp words → IsStamped timed stamp (take (prologue_words timed) words)
front_stamped true stamp words p =
    rw (get_or-take 7 words 4 0 (omega arith), get_or-take 7 words 5 0 (omega arith), get_or-take 7 words 6 0 (omega arith)) p
front_stamped false stamp words p = p

-- right words have their first ones as a prologue
pub front_prologue : (profile : PacketProfile) (p : Prologue) (words : List ℕ) → prologue_words p.header.timed ≤ length words
    → IsHeader profile p.header (get_or words 0 0) → p.stream ≡ get_or words 1 0 → IsClassWord profile p.header.kind (get_or words 2 0)
    → p.pad ≡ bits (get_or words 2 0) 27 5 → IsClass p.header.kind p.information p.packet → p.information ≡ bits (get_or words 3 0) 16 16
    → p.packet ≡ bits (get_or words 3 0) 0 16 → IsStamped p.header.timed p.stamp words → IsPrologue profile p (take (prologue_words p.header.timed) words)
front_prologue profile p words there header stream class_word pad class information packet stamp =
    let n = prologue_words p.header.timed in
    let four = four_or_more p.header.timed in
    let at : (i : ℕ) → i < 4 → get_or (take n words) i 0 ≡ get_or words i 0 = λ i h. get_or-take n words i 0 (omega arith) in
    record {
      all = length-take-le n words there;
      header = subst (IsHeader profile p.header) (sym (at 0 (omega arith))) header;
      stream = stream ∙ sym (at 1 (omega arith));
      class_word = subst (IsClassWord profile p.header.kind) (sym (at 2 (omega arith))) class_word;
      pad = pad ∙ ap (λ w. bits w 27 5) (sym (at 2 (omega arith)));
      class_allowed = class;
      information = information ∙ ap (λ w. bits w 16 16) (sym (at 3 (omega arith)));
      packet = packet ∙ ap (λ w. bits w 0 16) (sym (at 3 (omega arith)));
      stamp = front_stamped p.header.timed p.stamp words stamp;
    }

-- a prologue's words are right
pub prologue_right : (profile : PacketProfile) (p : Prologue) (header : Header) (words xs : List ℕ) (k : ℕ) → IsHeader profile header (get_or words 0 0)
    → IsPrologue profile p xs → 0 < k → Agree k xs words → IsRight profile header words k
prologue_right profile p header words xs k h q some same =
    let e : p.header ≡ header = one_header profile p.header header (get_or words 0 0) (subst (IsHeader profile p.header) (same 0 some) q.header) h in
    let stamped : p.header.timed ≡ true → fraction_of (get_or xs 5 0) (get_or xs 6 0) < 10 ^ 12 = λ t. (subst (λ b. IsStamped b p.stamp xs) t q.stamp).0 in
    subst (λ (hd : Header). IsRight profile hd words k) e (record {
      class_word = λ c. subst (IsClassWord profile p.header.kind) (same 2 c) q.class_word;
      class = λ c. subst (λ w. IsClass p.header.kind (bits w 16 16) (bits w 0 16)) (same 3 c)
          (subst (λ i. IsClass p.header.kind i (bits (get_or xs 3 0) 0 16)) q.information (subst (IsClass p.header.kind p.information) q.packet q.class_allowed));
      high = λ c t. omega (arith, stamped t, same 5 c);
      low = λ c t. omega (arith, stamped t, same 5 (omega arith), same 6 c);
    })

-- ---- some prologue goes on as right words do

-- a class word of the kind
abbrev class_word_of : Kind → ℕ
class_word_of Data = 0
class_word_of Context = 1
class_word_of Version = 65540
class_word_of Control = 0
class_word_of Cancel = 0
class_word_of Ack = 0

abbrev plain_stamp : Bool → List ℕ
plain_stamp true = 0 ∷ 0 ∷ 0 ∷ []
plain_stamp false = []

-- words that are right behind any in front of them
abbrev pub plain : PacketProfile → Header → List ℕ
plain profile header = 0 ∷ 0 ∷ profile.cid ∷ class_word_of header.kind ∷ plain_stamp header.timed

class_word_fits : (kind : Kind) → class_word_of kind < 2 ^ 32
class_word_fits Data = omega arith
class_word_fits Context = omega arith
class_word_fits Version = omega arith
class_word_fits Control = omega arith
class_word_fits Cancel = omega arith
class_word_fits Ack = omega arith

class_word_right : (kind : Kind) → IsClass kind (bits (class_word_of kind) 16 16) (bits (class_word_of kind) 0 16)
class_word_right Data = (refl, refl)
class_word_right Context = (refl, refl)
class_word_right Version = (refl, refl)
class_word_right Control = tt
class_word_right Cancel = tt
class_word_right Ack = tt

no_pad : (kind : Kind) (pad : ℕ) → pad ≡ 0 → IsPad kind pad
no_pad Data pad e = tt
no_pad Context pad e = e
no_pad Version pad e = e
no_pad Control pad e = e
no_pad Cancel pad e = e
no_pad Ack pad e = e

cid_right : (profile : PacketProfile) (kind : Kind) → IsProfile profile → IsClassWord profile kind profile.cid
cid_right profile kind p = record { pad = no_pad kind (bits profile.cid 27 5) (omega arith); clear = omega arith; cid = omega arith }

AreWords-plain_stamp : (timed : Bool) → AreWords (plain_stamp timed)
AreWords-plain_stamp true =
    AreWords-cons 0 (0 ∷ 0 ∷ []) (omega arith) (AreWords-cons 0 (0 ∷ []) (omega arith) (AreWords-cons 0 [] (omega arith) AreWords-nil))
AreWords-plain_stamp false = AreWords-nil

AreWords-plain : (profile : PacketProfile) (header : Header) → IsProfile profile → AreWords (plain profile header)
AreWords-plain profile header p =
    let stamp = plain_stamp header.timed in
    let class = class_word_of header.kind in
    AreWords-cons 0 (0 ∷ profile.cid ∷ class ∷ stamp) (omega arith) (AreWords-cons 0 (profile.cid ∷ class ∷ stamp) (omega arith)
    (AreWords-cons profile.cid (class ∷ stamp) (omega arith) (AreWords-cons class stamp (class_word_fits header.kind) (AreWords-plain_stamp header.timed))))

length-plain_stamp : (timed : Bool) → length (plain_stamp timed) + 4 ≡ prologue_words timed
length-plain_stamp true = refl
length-plain_stamp false = refl

length-plain : (profile : PacketProfile) (header : Header) → length (plain profile header) ≡ prologue_words header.timed
length-plain profile header = omega (arith, length-plain_stamp header.timed)

no_fraction : (timed : Bool) (i : ℕ) → get_or (plain_stamp timed) i 0 ≡ 0
no_fraction true zero = refl
no_fraction true (suc zero) = refl
no_fraction true (suc (suc zero)) = refl
no_fraction true (suc (suc (suc i))) = refl
no_fraction false i = refl

abbrev stamp_in : Bool → List ℕ → Option TimeStamp
stamp_in true words = Some (stamp_of (get_or words 4 0) (fraction_of (get_or words 5 0) (get_or words 6 0)))
stamp_in false words = None

stamped : (timed : Bool) (words : List ℕ) → (timed ≡ true → fraction_of (get_or words 5 0) (get_or words 6 0) < 10 ^ 12) → IsStamped timed (stamp_in timed words) words
stamped true words h = (h refl, refl)
stamped false words h = refl

abbrev prologue_in : Header → List ℕ → Prologue
prologue_in header words = record {
  header = header;
  stream = get_or words 1 0;
  pad = bits (get_or words 2 0) 27 5;
  information = bits (get_or words 3 0) 16 16;
  packet = bits (get_or words 3 0) 0 16;
  stamp = stamp_in header.timed words;
}

-- words that are right to the end are a prologue
right_prologue : (profile : PacketProfile) (header : Header) (words : List ℕ) → IsHeader profile header (get_or words 0 0)
    → length words ≡ prologue_words header.timed → IsRight profile header words 7 → IsPrologue profile (prologue_in header words) words
right_prologue profile header words h all right = record {
  all = all;
  header = h;
  stream = refl;
  class_word = right.class_word (omega arith);
  pad = refl;
  class_allowed = right.class (omega arith);
  information = refl;
  packet = refl;
  stamp = stamped header.timed words (right.low (omega arith));
}

module _ (profile : PacketProfile) (header : Header) (words : List ℕ) (w : ℕ) (fits : IsProfile profile) (there : w < length words) (right : IsRight profile header words (suc w)) where
  more : List ℕ
  more = filled w words (plain profile header)

  fraction_right : header.timed ≡ true → fraction_of (get_or more 5 0) (get_or more 6 0) < 10 ^ 12
  unfolding more
  fraction_right t =
      let front = filled_front w words (plain profile header) in
      let behind = filled_behind w words (plain profile header) in
      let none5 = no_fraction header.timed 1 in
      let none6 = no_fraction header.timed 2 in
      elim (cases_lt 5 w) [
        | inl six ↦ omega (arith, front 5 there (omega arith), front 6 there six, right.low (omega arith) t)
        | inr less ↦ elim (cases_lt 4 w) [
          | inl five ↦ omega (arith, front 5 there five, behind 6 there (omega arith), none6, right.high (omega arith) t)
          | inr four ↦ omega (arith, behind 5 there (omega arith), behind 6 there (omega arith), none5, none6)
        ]
      ]

  all_right : IsRight profile header more 7
  unfolding more
  all_right = record {
    class_word = λ _. elim (cases_lt 1 w) [
      | inl lt ↦ subst (IsClassWord profile header.kind) (sym (filled_front w words (plain profile header) 2 there lt)) (right.class_word (omega arith))
      | inr le ↦ subst (IsClassWord profile header.kind) (sym (filled_behind w words (plain profile header) 2 there (omega arith))) (cid_right profile header.kind fits)
    ];
    class = λ _. elim (cases_lt 2 w) [
      | inl lt ↦ subst (λ n. IsClass header.kind (bits n 16 16) (bits n 0 16)) (sym (filled_front w words (plain profile header) 3 there lt)) (right.class (omega arith))
      | inr le ↦ subst (λ n. IsClass header.kind (bits n 16 16) (bits n 0 16)) (sym (filled_behind w words (plain profile header) 3 there (omega arith))) (class_word_right header.kind)
    ];
    high = λ _ t. omega (arith, fraction_right t);
    low = λ _ t. fraction_right t;
  }

  -- right words begin a prologue
  pub right_begins : IsHeader profile header (get_or words 0 0) → w < prologue_words header.timed → Begins (IsPrologue profile) words w
  unfolding more
  right_begins h inside =
      let length = length-plain profile header in (
        prologue_in header more,
        (
          drop (suc w) (plain profile header),
          (
            AreWords-drop (suc w) (plain profile header) (AreWords-plain profile header fits),
            right_prologue profile header more (subst (IsHeader profile header) (sym (filled_front w words (plain profile header) 0 there (omega arith))) h)
                (length-filled w words (plain profile header) there (omega arith) ∙ length) all_right,
          ),
        ),
      )

pub IsRight-below : (profile : PacketProfile) (header : Header) (words : List ℕ) (j k : ℕ) → j ≤ k → IsRight profile header words k → IsRight profile header words j
IsRight-below profile header words j k le r = record {
  class_word = λ h. r.class_word (omega arith);
  class = λ h. r.class (omega arith);
  high = λ h. r.high (omega arith);
  low = λ h. r.low (omega arith);
}

-- the words are refused where they go wrong
pub wrong_refused : (profile : PacketProfile) (header : Header) (words : List ℕ) (place : ℕ) → IsProfile profile → IsHeader profile header (get_or words 0 0)
    → IsWrongAt profile header words place → IsRefusedAt (IsPrologue profile) words place
wrong_refused profile header words place fits h wrong =
    refused_by_steps (IsPrologue profile) (IsRight profile header words) words place
    (λ w there b. prologue_right profile b.0 header words (take (suc w) words ++ b.1.0) (suc w) h b.1.1.1 (omega arith) (λ i lt. begun_words w words b.1.0 i there (omega arith)))
    (λ u before right. right_begins profile header words u fits (omega (arith, wrong.within)) (IsRight-below profile header words (suc u) place before right) h (omega (arith, wrong.inside)))
    wrong.within wrong.right wrong.here

-- ---- what the words behind the header give

-- the stamp's words are wrong
pub unstamped_wrong : (profile : PacketProfile) (header : Header) (words : List ℕ) (place : ℕ) → header.timed ≡ true → IsClassWord profile header.kind (get_or words 2 0)
    → IsClass header.kind (bits (get_or words 3 0) 16 16) (bits (get_or words 3 0) 0 16) → IsUnstampedAt words place → IsWrongAt profile header words place
unstamped_wrong profile header words place timed class_word class u = record {
  within = u.within;
  inside = subst (λ b. place < prologue_words b) (sym timed) (omega (arith, u.to));
  right = record { class_word = λ _. class_word; class = λ _. class; high = λ h _. u.high h; low = λ h. absurd (omega (arith, u.to)) };
  here = λ there right. elim (cases_lt place 5) [
    | inl four ↦ absurd (omega (arith, u.from, u.here_seconds (omega (arith, u.from))))
    | inr more ↦ elim (cases_lt place 6) [
      | inl five ↦ absurd (omega (arith, u.here_high (omega arith) (omega arith), right.high (omega arith) timed))
      | inr six ↦ absurd (omega (arith, u.here_low (omega (arith, u.to)) (omega (arith, u.to)), right.low (omega arith) timed))
    ]
  ];
}

-- the front of a list that is a prologue is as long as a prologue
prologue_fits : (profile : PacketProfile) (q : Prologue) (words : List ℕ) (n : ℕ) → IsPrologue profile q (take n words)
    → (prologue_words q.header.timed ≤ n) × (prologue_words q.header.timed ≤ length words) × (take n words ≡ take (prologue_words q.header.timed) words)
prologue_fits profile q words n h =
    let e : min n (length words) ≡ prologue_words q.header.timed = sym (length-take n words) ∙ h.all in
    (omega arith, omega arith, sym (take_min n words) ∙ ap (λ k. take k words) e)

-- words that go wrong have no prologue in front
pub wrong_none : (profile : PacketProfile) (header : Header) (words : List ℕ) (place : ℕ) → IsHeader profile header (get_or words 0 0)
    → IsWrongAt profile header words place → (q : Prologue) (n : ℕ) → ¬ IsPrologue profile q (take n words)
wrong_none profile header words place h wrong q n p =
    let fits = prologue_fits profile q words n p in
    let four = four_or_more q.header.timed in
    let same : Agree (prologue_words q.header.timed) (take n words) words = λ i lt. get_or-take n words i 0 (omega (arith, fits.0)) in
    let e = one_header profile q.header header (get_or words 0 0) (subst (IsHeader profile q.header) (same 0 (omega arith)) p.header) h in
    let inside = subst (λ (x : Header). place < prologue_words x.timed) (sym e) wrong.inside in
    wrong.here (omega (arith, fits.1)) (prologue_right profile q header words (take n words) (suc place) h p (omega arith) (λ i lt. same i (omega arith)))

-- the answer of a prologue's reader is the only one
pub one_answer : (profile : PacketProfile) (header : Header) (words : List ℕ) (result : Result Prologue Place) → IsHeader profile header (get_or words 0 0)
    → IfOk result (λ p. (p.header ≡ header) × IsPrologue profile p (take (prologue_words header.timed) words)) → IfErr result (λ place. IsWrongAt profile header words place.word)
    → (q : Prologue) (n : ℕ) → IsPrologue profile q (take n words) → result ≡ Ok q
one_answer profile header words (Err place) h ok wrong q n p = absurd (wrong_none profile header words place.word h wrong q n p)
one_answer profile header words (Ok found) h ok wrong q n p =
    let fits = prologue_fits profile q words n p in
    let four = four_or_more q.header.timed in
    let first = get_or-take n words 0 0 (omega (arith, fits.0)) in
    let e = one_header profile q.header header (get_or words 0 0) (subst (IsHeader profile q.header) first p.header) h in
    let mine : IsPrologue profile found (take n words) = subst (IsPrologue profile found) (ap (λ (x : Header). take (prologue_words x.timed) words) (sym e) ∙ sym fits.2) ok.1 in
    ap Ok (one_prologue profile found q (take n words) mine p)
