-- Laws of the refused place, for packets of any kind.
use Rattle.std.proofs.Common.{◌≡◌, ℕ, suc, refl, [], ◌∷◌, ◌+◌, ◌-◌, ◌<◌, ◌≤◌, List, ◌++◌, length, take, drop, get_or, inl, inr, sym, ap, ◌∙◌, subst, append_assoc, take-append-drop, length-append, length-drop, arith}
use Rattle.std.proofs.lemmas.Bool.{cases_order}
use Rattle.std.proofs.lemmas.List.{length-take-le, take-take, get_or_append_left, get_or-append_right, get_or-take, get_or-drop}
use Rattle.vrt_words.specs.Words.{AreWords}
use Rattle.vrt_words.proofs.WordLaws.{AreWords-append, AreWords-take, AreWords-drop}
use Rattle.vrt_words.specs.Begins.{Begins, IsRefusedAt}

-- words are refused at one place
pub one_place : {V : Type 0} (IsPacket : V → List ℕ → Type 0) (words : List ℕ) (m n : ℕ) → IsRefusedAt IsPacket words m → IsRefusedAt IsPacket words n → m ≡ n
one_place IsPacket words m n p q =
    elim (cases_order m n) [
      | inl same ↦ same
      | inr apart ↦ elim apart [
        | inl less ↦ absurd (p.here (omega arith) (q.before m less))
        | inr more ↦ absurd (q.here (omega arith) (p.before n more))
      ]
    ]

-- Right k: nothing is wrong with the first k words. What begins a packet is right, what is right begins one, and the
-- words are right up to the place, and not with the word there.
pub refused_by_steps : {V : Type 0} (IsPacket : V → List ℕ → Type 0) (Right : ℕ → Type 0) (words : List ℕ) (place : ℕ)
    → ((w : ℕ) → w < length words → Begins IsPacket words w → Right (suc w))
    → ((w : ℕ) → w < place → Right place → Begins IsPacket words w)
    → place ≤ length words → Right place → (place < length words → ¬ Right (suc place)) → IsRefusedAt IsPacket words place
refused_by_steps IsPacket Right words place sound complete within right wrong = record {
  within = within;
  before = λ u h. complete u h right;
  here = λ h b. wrong h (sound place h b);
}

-- the words 0 to w, and from there on those of plain
abbrev pub filled : ℕ → List ℕ → List ℕ → List ℕ
filled w words plain = take (suc w) words ++ drop (suc w) plain

pub length-filled : (w : ℕ) (words plain : List ℕ) → w < length words → w < length plain → length (filled w words plain) ≡ length plain
length-filled w words plain h k =
    length-append (take (suc w) words) (drop (suc w) plain)
    ∙ omega (arith, length-take-le (suc w) words h, length-drop (suc w) plain)

pub filled_front : (w : ℕ) (words plain : List ℕ) (i : ℕ) → w < length words → i ≤ w → get_or (filled w words plain) i 0 ≡ get_or words i 0
filled_front w words plain i h k =
    get_or_append_left (take (suc w) words) (drop (suc w) plain) 0 i (omega (arith, length-take-le (suc w) words h))
    ∙ get_or-take (suc w) words i 0 (omega arith)

pub filled_behind : (w : ℕ) (words plain : List ℕ) (i : ℕ) → w < length words → w < i → get_or (filled w words plain) i 0 ≡ get_or plain i 0
filled_behind w words plain i h k =
    let e : suc w + (i - suc w) ≡ i = omega arith in
    get_or-append_right (take (suc w) words) (drop (suc w) plain) (suc w) i 0 (length-take-le (suc w) words h) k
    ∙ get_or-drop (suc w) plain (i - suc w) 0 ∙ ap (λ n. get_or plain n 0) e

-- a packet that begins so has these words
pub begun_words : (w : ℕ) (words rest : List ℕ) (i : ℕ) → w < length words → i ≤ w → get_or (take (suc w) words ++ rest) i 0 ≡ get_or words i 0
begun_words w words rest i h k =
    get_or_append_left (take (suc w) words) rest 0 i (omega (arith, length-take-le (suc w) words h))
    ∙ get_or-take (suc w) words i 0 (omega arith)

-- what begins with some words begins with the first of them
pub Begins-below : {V : Type 0} (IsPacket : V → List ℕ → Type 0) (words : List ℕ) (u w : ℕ) → AreWords words → u ≤ w → Begins IsPacket words w → Begins IsPacket words u
Begins-below IsPacket words u w fits h b =
    let mid = drop (suc u) (take (suc w) words) in
    let front : take (suc u) words ++ mid ≡ take (suc w) words =
    ap (λ xs. xs ++ mid) (sym (take-take (suc u) (suc w) words (omega arith))) ∙ take-append-drop (suc u) (take (suc w) words) in
    let same : take (suc w) words ++ b.1.0 ≡ take (suc u) words ++ (mid ++ b.1.0) =
    ap (λ xs. xs ++ b.1.0) (sym front) ∙ append_assoc (take (suc u) words) mid b.1.0 in
    (b.0, (mid ++ b.1.0, (AreWords-append mid b.1.0 (AreWords-drop (suc u) (take (suc w) words) (AreWords-take (suc w) words fits)) b.1.1.0, subst (IsPacket b.0) same b.1.1.1)))

-- the words behind the first m, and those behind a front of m words
pub behind_front : (m k : ℕ) (words : List ℕ) (i : ℕ) → i < k → get_or (take k (drop m words)) i 0 ≡ get_or words (m + i) 0
behind_front m k words i h = get_or-take k (drop m words) i 0 h ∙ get_or-drop m words i 0

pub length-behind : (m k : ℕ) (words : List ℕ) → m + k ≤ length words → length (take k (drop m words)) ≡ k
length-behind m k words h = length-take-le k (drop m words) (omega (arith, length-drop m words))

pub row_behind : (front words rest : List ℕ) (m i : ℕ) → length front ≡ m → i < length words → get_or (front ++ (words ++ rest)) (m + i) 0 ≡ get_or words i 0
row_behind front words rest m i long h =
    let back : (m + i) - m ≡ i = omega arith in
    get_or-append_right front (words ++ rest) m (m + i) 0 long (omega arith)
    ∙ ap (λ n. get_or (words ++ rest) n 0) back ∙ get_or_append_left words rest 0 i h

-- a word more
pub one_more_before : (words : List ℕ) (x i : ℕ) → i < length words → get_or (words ++ x ∷ []) i 0 ≡ get_or words i 0
one_more_before words x i h = get_or_append_left words (x ∷ []) 0 i h

pub one_more_last : (words : List ℕ) (x i : ℕ) → i ≡ length words → get_or (words ++ x ∷ []) i 0 ≡ x
one_more_last words x i e =
    let back : i - length words ≡ 0 = omega arith in
    get_or-append_right words (x ∷ []) (length words) i 0 refl (omega arith) ∙ ap (λ n. get_or (x ∷ []) n 0) back
