-- The next number changes the last digit alone, unless it is a nine.
use Rattle.std.proofs.Common.{◌≡◌, ℕ, ◌+◌, ◌/◌, ◌%◌, ◌^◌, ◌<◌, ◌≤◌, inl, inr, List, [], ◌∷◌, ◌++◌, length, take, drop, get_or, sym, ap, ◌∙◌, append_assoc, length-append, arith}
use Rattle.std.proofs.Math.ListN.{set}
use Rattle.std.proofs.Math.Seq.{take-append_seam, drop-append_seam}
use Rattle.std.proofs.lemmas.Bool.{cases_lt}
use Rattle.std.proofs.lemmas.Fmt.{decimal_step, decimal_digit, decimal_nonempty}
use Rattle.std.proofs.lemmas.List.{take-append-drop, drop-append-le, drop-set, drop_more, drop_all, take-set, length-drop, length-take-le}
use Rattle.std.specs.Fmt.{decimal}

-- a list has one last item, and one front
same_ends : (xs ys : List ℕ) (x y : ℕ) → xs ++ x ∷ [] ≡ ys ++ y ∷ [] → (xs ≡ ys) × (x ≡ y)
same_ends xs ys x y e =
    let long : length xs + 1 ≡ length ys + 1 = sym (length-append xs (x ∷ [])) ∙ ap length e ∙ length-append ys (y ∷ []) in
    let same : length xs ≡ length ys = omega arith in (
      sym (take-append_seam xs (x ∷ [])) ∙ ap (take (length xs)) e ∙ ap (λ n. take n (ys ++ y ∷ [])) same ∙ take-append_seam ys (y ∷ []),
      ap (λ l. get_or l 0 0)
          (sym (drop-append_seam xs (x ∷ [])) ∙ ap (drop (length xs)) e ∙ ap (λ n. drop n (ys ++ y ∷ [])) same ∙ drop-append_seam ys (y ∷ [])),
    )

next_digit : (n : ℕ) (front : List ℕ) (digit : ℕ) → n + 1 < 2 ^ 64 → decimal n ≡ front ++ digit ∷ [] → digit < 57 → decimal (n + 1) ≡ front ++ (digit + 1) ∷ []
next_digit n front digit fits e h = elim (cases_lt n 10) [
  | inl one ↦
      let ends = same_ends front [] digit (48 + n) (sym e ∙ decimal_digit n one) in
      let up : 48 + (n + 1) ≡ digit + 1 = omega (arith, ends.1) in
      decimal_digit (n + 1) (omega (arith, ends.1)) ∙ ap (λ d. d ∷ []) up ∙ ap (λ l. l ++ (digit + 1) ∷ []) (sym ends.0)
  | inr more ↦
      let ends = same_ends front (decimal (n / 10)) digit (48 + n % 10) (sym e ∙ decimal_step n more (omega arith)) in
      let tens : (n + 1) / 10 ≡ n / 10 = omega (arith, ends.1) in
      let up : 48 + (n + 1) % 10 ≡ digit + 1 = omega (arith, ends.1) in
      decimal_step (n + 1) (omega arith) fits ∙ ap (λ k. decimal k ++ (48 + (n + 1) % 10) ∷ []) tens
      ∙ ap (λ d. decimal (n / 10) ++ d ∷ []) up ∙ ap (λ l. l ++ (digit + 1) ∷ []) (sym ends.0)
]

-- a number has a last digit
record LastDigit (n : ℕ) : Type 0 where
  front : List ℕ
  digit : ℕ
  text : decimal n ≡ front ++ digit ∷ []

last_digit : (n : ℕ) → n < 2 ^ 64 → LastDigit n
last_digit n fits = elim (cases_lt n 10) [
  | inl one ↦ record { front = []; digit = 48 + n; text = decimal_digit n one }
  | inr more ↦ record { front = decimal (n / 10); digit = 48 + n % 10; text = decimal_step n more fits }
]

-- words that end with the number, with another last digit
pub next_words : (n start : ℕ) (word words : List ℕ) → n + 1 < 2 ^ 64 → length words ≡ 26 → drop start words ≡ word ++ decimal n → get_or words 25 0 < 57
    → drop start (set words 25 (get_or words 25 0 + 1)) ≡ word ++ decimal (n + 1)
next_words n start word words fits size text h =
    let last = get_or words 25 0 in
    let front = take 25 words in
    let none = drop_all 26 words (omega arith) in
    let some : start ≤ 25 = omega (arith, decimal_nonempty n (omega arith), ap length text, length-append word (decimal n), length-drop start words) in
    let within : start ≤ length front = omega (arith, length-take-le 25 words (omega arith)) in
    let old : words ≡ front ++ last ∷ [] =
    sym (take-append-drop 25 words) ∙ ap (λ l. front ++ l) (drop_more words 25 0 (omega arith) ∙ ap (λ l. last ∷ l) none) in
    let new : set words 25 (last + 1) ≡ front ++ (last + 1) ∷ [] =
    sym (take-append-drop 25 (set words 25 (last + 1))) ∙ ap (λ l. l ++ drop 25 (set words 25 (last + 1))) (take-set words 25 (last + 1))
    ∙ ap (λ l. front ++ l) (drop-set words 25 (last + 1) (omega arith) ∙ ap (λ l. (last + 1) ∷ l) none) in
    let e = last_digit n (omega arith) in
    let ends = same_ends (word ++ e.front) (drop start front) e.digit last
    (append_assoc word e.front (e.digit ∷ []) ∙ ap (λ l. word ++ l) (sym e.text) ∙ sym text ∙ ap (drop start) old ∙ drop-append-le start front (last ∷ []) within) in
    let next = next_digit n e.front e.digit fits e.text (omega (arith, ends.1)) in
    ap (drop start) new ∙ drop-append-le start front ((last + 1) ∷ []) within
    ∙ ap (λ l. l ++ (last + 1) ∷ []) (sym ends.0) ∙ ap (λ d. (word ++ e.front) ++ (d + 1) ∷ []) (sym ends.1)
    ∙ append_assoc word e.front ((e.digit + 1) ∷ []) ∙ ap (λ l. word ++ l) (sym next)
