-- Where a packet that is a front and more words is refused: in the front, or behind it.
use Rattle.std.proofs.Common.{◌≡◌, ℕ, zero, suc, ◌+◌, ◌-◌, ◌<◌, ◌≤◌, inl, inr, List, [], ◌∷◌, ◌++◌, length, take, drop, sym, ap, ◌∙◌, subst, append_assoc, append-nil, length-append, length-drop, take-add, take-append-drop, arith}
use Rattle.std.proofs.lemmas.Bool.{cases_lt}
use Rattle.std.proofs.lemmas.List.{length-take, length-take-le, take-take, take-append-le, take_all}
use Rattle.std.proofs.Math.Seq.{take-append-add, take-length}
use Rattle.vrt_words.specs.Words.{words_of, AreWords, AreBytes}
use Rattle.vrt_words.specs.Begins.{Begins, IsDatagram, IsRefusedAt, IsRefused}
use Rattle.vrt_words.proofs.WordLaws.{words_of-words, AreWords-nil, AreWords-cons, AreWords-append, AreWords-take, AreWords-drop}
use Rattle.vrt_words.proofs.BeginLaws.{Begins-below}
use Rattle.vrt_words.specs.Growing.{AreGrown, IsStoppedAt}

module _ {F V : Type 0} (IsFront : F → List ℕ → Type 0) (IsWhole : V → List ℕ → Type 0) (IsBegun : F → List ℕ → Type 0) (most : F → ℕ)
    (grown : AreGrown IsFront IsWhole IsBegun most) where
  -- what is begun goes on to a packet
  goes_on : (n : ℕ) (f : F) (front words : List ℕ) → most f ≤ length words + n → IsFront f front → AreWords words → IsBegun f words
      → (v : V) × ((rest : List ℕ) × (AreWords rest × IsWhole v (front ++ (words ++ rest))))
  goes_on zero f front words enough is fit begun = elim (grown.next f front words is fit begun) [
    | inl done ↦ (done.0, ([], (AreWords-nil, subst (λ xs. IsWhole done.0 (front ++ xs)) (sym (append-nil words)) done.1)))
    | inr more ↦ absurd (omega (arith, grown.bounded f (words ++ more.0 ∷ []) more.1.1, length-append words (more.0 ∷ [])))
  ]
  goes_on (suc n) f front words enough is fit begun = elim (grown.next f front words is fit begun) [
    | inl done ↦ (done.0, ([], (AreWords-nil, subst (λ xs. IsWhole done.0 (front ++ xs)) (sym (append-nil words)) done.1)))
    | inr more ↦
        let x = more.0 in
        let one : AreWords (x ∷ []) = AreWords-cons x [] more.1.0 AreWords-nil in
        let b = goes_on n f front (words ++ x ∷ []) (omega (arith, length-append words (x ∷ []))) is (AreWords-append words (x ∷ []) fit one) more.1.1 in
        (b.0, (x ∷ b.1.0, (AreWords-cons x b.1.0 more.1.0 b.1.1.0, subst (λ xs. IsWhole b.0 (front ++ xs)) (append_assoc words (x ∷ []) b.1.0) b.1.1.1)))
  ]

  completed : (f : F) (front words : List ℕ) → IsFront f front → AreWords words → IsBegun f words
      → (v : V) × ((rest : List ℕ) × (AreWords rest × IsWhole v (front ++ (words ++ rest))))
  completed f front words is fit begun = goes_on (most f) f front words (omega arith) is fit begun

  -- the front is begun by what begins a packet, and the other way round
  front_goes_on : (words : List ℕ) (u : ℕ) → Begins IsFront words u → Begins IsWhole words u
  front_goes_on words u b =
      let front = take (suc u) words ++ b.1.0 in
      let whole = completed b.0 front [] b.1.1.1 AreWords-nil (grown.start b.0 front b.1.1.1) in (
        whole.0,
        (
          b.1.0 ++ whole.1.0,
          (
            AreWords-append b.1.0 whole.1.0 b.1.1.0 whole.1.1.0,
            subst (IsWhole whole.0) (append_assoc (take (suc u) words) b.1.0 whole.1.0) whole.1.1.1,
          ),
        ),
      )

  front_begins : (words : List ℕ) (w : ℕ) → w < length words → ((f : F) (n : ℕ) → ¬ IsFront f (take n words)) → Begins IsWhole words w → Begins IsFront words w
  front_begins words w there none b =
      let xs = take (suc w) words ++ b.1.0 in
      let long : length (take (suc w) words) ≡ suc w = length-take-le (suc w) words there in
      let part = grown.front b.0 xs b.1.1.1 in
      let m = part.1.0 in
      elim (cases_lt (suc w) m) [
        | inl more ↦
            let e : m ≡ length (take (suc w) words) + (m - suc w) = omega arith in
            let same : take m xs ≡ take (suc w) words ++ take (m - suc w) b.1.0 =
            ap (λ n. take n xs) e ∙ take-append-add (take (suc w) words) b.1.0 (m - suc w) in
            (part.0, (take (m - suc w) b.1.0, (AreWords-take (m - suc w) b.1.0 b.1.1.0, subst (IsFront part.0) same part.1.1)))
        | inr less ↦
            let same : take m xs ≡ take m words = take-append-le m (take (suc w) words) b.1.0 (omega arith) ∙ take-take m (suc w) words (omega arith) in
            absurd (none part.0 m (subst (IsFront part.0) same part.1.1))
      ]

  -- where words have no front, they are refused in it
  pub refused_in_front : (words : List ℕ) (place : ℕ) → IsRefusedAt IsFront words place → ((f : F) (n : ℕ) → ¬ IsFront f (take n words)) → IsRefusedAt IsWhole words place
  refused_in_front words place at none = record {
    within = at.within;
    before = λ u h. front_goes_on words u (at.before u h);
    here = λ there b. at.here there (front_begins words place there none b);
  }

  pub none_in_front : (words : List ℕ) → ((f : F) (n : ℕ) → ¬ IsFront f (take n words)) → (v : V) (n : ℕ) → ¬ IsWhole v (take n words)
  none_in_front words none v n h =
      let part = grown.front v (take n words) h in
      let m = part.1.0 in
      elim (cases_lt n m) [
        | inl more ↦
            let same : take m (take n words) ≡ take n words = take_all m (take n words) (omega (arith, length-take n words)) in
            none part.0 n (subst (IsFront part.0) same part.1.1)
        | inr less ↦ none part.0 m (subst (IsFront part.0) (take-take m n words (omega arith)) part.1.1)
      ]

  -- behind a front of m words
  module _ (f : F) (words : List ℕ) (m : ℕ) (fit : AreWords words) (inside : m ≤ length words) (is : IsFront f (take m words)) where
    begins_at : (k w : ℕ) → suc w ≡ m + k → IsBegun f (take k (drop m words)) → Begins IsWhole words w
    begins_at k w e begun =
        let b = completed f (take m words) (take k (drop m words)) is (AreWords-take k (drop m words) (AreWords-drop m words fit)) begun in
        let row : take m words ++ (take k (drop m words) ++ b.1.0) ≡ take (suc w) words ++ b.1.0 =
        sym (append_assoc (take m words) (take k (drop m words)) b.1.0)
        ∙ ap (λ xs. xs ++ b.1.0) (sym (take-add m k words) ∙ ap (λ n. take n words) (sym e)) in
        (b.0, (b.1.0, (b.1.1.0, subst (IsWhole b.0) row b.1.1.1)))

    begins_before : (place u : ℕ) → place ≤ length words → m ≤ place → u < place → IsBegun f (take (place - m) (drop m words)) → Begins IsWhole words u
    begins_before zero u within behind h begun = absurd (omega arith)
    begins_before (suc w) u within behind h begun =
        Begins-below IsWhole words u w fit (omega arith) (begins_at (suc w - m) w (omega arith) begun)

    begun_by : (k : ℕ) → k < length (drop m words) → Begins IsWhole words (m + k) → IsBegun f (take (suc k) (drop m words))
    begun_by k there b =
        let e : suc (m + k) ≡ m + suc k = omega arith in
        let row : take (suc (m + k)) words ++ b.1.0 ≡ take m words ++ (take (suc k) (drop m words) ++ b.1.0) =
        ap (λ n. take n words ++ b.1.0) e ∙ ap (λ xs. xs ++ b.1.0) (take-add m (suc k) words)
        ∙ append_assoc (take m words) (take (suc k) (drop m words)) b.1.0 in
        grown.sound f b.0 (take m words) (take (suc k) (drop m words)) b.1.0 is (subst (IsWhole b.0) row b.1.1.1)

    pub refused_behind : (k : ℕ) → IsStoppedAt (IsBegun f) (drop m words) k → IsRefusedAt IsWhole words (m + k)
    refused_behind k stop =
        let rest = length-drop m words in
        let back : (m + k) - m ≡ k = omega arith in
        record {
          within = omega (arith, stop.within);
          before = λ u h. begins_before (m + k) u (omega (arith, stop.within)) (omega arith) h (subst (λ n. IsBegun f (take n (drop m words))) (sym back) stop.begun);
          here = λ there b. stop.here (omega arith) (begun_by k (omega arith) b);
        }

    -- a packet that stands in front of the words, or is all of them, goes on behind the front
    pub begun_front : (v : V) (k j : ℕ) → j ≤ k → IsWhole v (take (m + k) words) → IsBegun f (take j (drop m words))
    begun_front v k j le h =
        let xs = take k (drop m words) in
        let row : take (m + k) words ≡ take m words ++ (take j xs ++ drop j xs) =
        take-add m k words ∙ ap (λ ys. take m words ++ ys) (sym (take-append-drop j xs)) in
        subst (IsBegun f) (take-take j k (drop m words) le) (grown.sound f v (take m words) (take j xs) (drop j xs) is (subst (IsWhole v) row h))

  -- ---- datagrams

  pub refused_datagram_in_front : (bytes : List ℕ) (place : ℕ) → IsRefusedAt IsFront (words_of bytes) place
      → ((f : F) (n : ℕ) → ¬ IsFront f (take n (words_of bytes))) → IsRefused IsWhole bytes place
  refused_datagram_in_front bytes place at none =
      let words = words_of bytes in
      record {
        at = refused_in_front words place at none;
        no_packet = λ v d. none_in_front words none v (length words) (subst (IsWhole v) (sym (take-length words)) d.packet);
      }

  -- the words go on so up to the place; where these are all words, the datagram is no packet for another reason
  pub refused_datagram : (f : F) (bytes : List ℕ) (m k : ℕ) → AreBytes bytes → m ≤ length (words_of bytes) → IsFront f (take m (words_of bytes))
      → IsStoppedAt (IsBegun f) (drop m (words_of bytes)) k → (m + k ≡ length (words_of bytes) → (v : V) → ¬ IsDatagram IsWhole v bytes)
      → IsRefused IsWhole bytes (m + k)
  refused_datagram f bytes m k fit inside is stop unfinished =
      let words = words_of bytes in
      let fits = words_of-words bytes fit in
      let rest = length-drop m words in
      let all : m + (length words - m) ≡ length words = omega arith in
      let row : take (m + (length words - m)) words ≡ words = ap (λ n. take n words) all ∙ take-length words in
      record {
        at = refused_behind f words m fits inside is k stop;
        no_packet = λ v d. elim (cases_lt k (length words - m)) [
          | inl less ↦
              stop.here (omega (arith, rest))
              (begun_front f words m fits inside is v (length words - m) (suc k) less (subst (IsWhole v) (sym row) d.packet))
          | inr le ↦ unfinished (omega (arith, stop.within, rest)) v d
        ];
      }
