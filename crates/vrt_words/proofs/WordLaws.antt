-- Laws of the words of a datagram.
use Rattle.std.proofs.Common.{◌≡◌, ◌<◌, ◌^◌, ◌/◌, ◌%◌, ℕ, zero, suc, ◌+◌, ◌-◌, ◌*◌, ◌<◌, ◌≤◌, List, [], ◌∷◌, ◌++◌, length, take, drop, refl, sym, ap, ◌∙◌, true, nat_lt, arith}
use Rattle.std.proofs.lemmas.List.{nil_from_length, drop-drop}
use Rattle.std.specs.List.{flat_map, list_all}
use Rattle.std.proofs.lemmas.Bool.{ltb-true, and_parts}
use Rattle.byteorder.specs.Endian.{big_bytes}
use Rattle.vrt_words.specs.Words.{word_of, words_of, AreWords, AreBytes}

-- the whole words, and up to three bytes more
pub length-words_of : (bytes : List ℕ) → (4 * length (words_of bytes) ≤ length bytes) × (length bytes < 4 * length (words_of bytes) + 4)
length-words_of (a ∷ b ∷ c ∷ d ∷ bytes) = let e = length-words_of bytes in (omega (arith, e.0), omega (arith, e.1))
length-words_of [] = (omega arith, omega arith)
length-words_of (a ∷ []) = (omega arith, omega arith)
length-words_of (a ∷ b ∷ []) = (omega arith, omega arith)
length-words_of (a ∷ b ∷ c ∷ []) = (omega arith, omega arith)

-- bytes make words of 32 bits
pub words_of-words : (bytes : List ℕ) → AreBytes bytes → AreWords (words_of bytes)
words_of-words (a ∷ b ∷ c ∷ d ∷ bytes) fits zero = omega (arith, fits 0, fits 1, fits 2, fits 3)
words_of-words (a ∷ b ∷ c ∷ d ∷ bytes) fits (suc i) = words_of-words bytes (λ k. fits (suc (suc (suc (suc k))))) i
words_of-words [] fits i = omega arith
words_of-words (a ∷ []) fits i = omega arith
words_of-words (a ∷ b ∷ []) fits i = omega arith
words_of-words (a ∷ b ∷ c ∷ []) fits i = omega arith

-- words after words
pub AreWords-append : (xs ys : List ℕ) → AreWords xs → AreWords ys → AreWords (xs ++ ys)
AreWords-append [] ys p q i = q i
AreWords-append (x ∷ xs) ys p q zero = p 0
AreWords-append (x ∷ xs) ys p q (suc i) = AreWords-append xs ys (λ k. p (suc k)) q i

pub AreWords-take : (n : ℕ) (xs : List ℕ) → AreWords xs → AreWords (take n xs)
AreWords-take zero xs p i = omega arith
AreWords-take (suc n) [] p i = omega arith
AreWords-take (suc n) (x ∷ xs) p zero = p 0
AreWords-take (suc n) (x ∷ xs) p (suc i) = AreWords-take n xs (λ k. p (suc k)) i

pub AreWords-drop : (n : ℕ) (xs : List ℕ) → AreWords xs → AreWords (drop n xs)
AreWords-drop zero xs p = p
AreWords-drop (suc n) [] p = λ i. omega arith
AreWords-drop (suc n) (x ∷ xs) p = AreWords-drop n xs (λ k. p (suc k))

-- whole words of bytes are spelled in one way
pub one_spelling : (xs ys : List ℕ) → AreBytes xs → AreBytes ys → length xs ≡ 4 * length (words_of xs) → length ys ≡ 4 * length (words_of ys)
    → words_of xs ≡ words_of ys → xs ≡ ys
one_spelling [] ys p q h k e = sym (nil_from_length ys (k ∙ ap (λ ws. 4 * length ws) (sym e)))
one_spelling (a ∷ []) ys p q h k e = absurd (omega (arith, h))
one_spelling (a ∷ b ∷ []) ys p q h k e = absurd (omega (arith, h))
one_spelling (a ∷ b ∷ c ∷ []) ys p q h k e = absurd (omega (arith, h))
one_spelling (a ∷ b ∷ c ∷ d ∷ xs) (s ∷ t ∷ u ∷ v ∷ ys) p q h k e =
    let same : word_of a b c d ≡ word_of s t u v = cc in
    let rest : words_of xs ≡ words_of ys = cc in
    let au : a ≡ s = omega (arith, p 0, p 1, p 2, p 3, q 0, q 1, q 2, q 3) in
    let bt : b ≡ t = omega (arith, p 0, p 1, p 2, p 3, q 0, q 1, q 2, q 3) in
    let cu : c ≡ u = omega (arith, p 0, p 1, p 2, p 3, q 0, q 1, q 2, q 3) in
    let dv : d ≡ v = omega (arith, p 0, p 1, p 2, p 3, q 0, q 1, q 2, q 3) in
    let more = one_spelling xs ys (λ i. p (suc (suc (suc (suc i))))) (λ i. q (suc (suc (suc (suc i))))) (omega arith) (omega arith) rest in
    cc
one_spelling (a ∷ b ∷ c ∷ d ∷ xs) ys p q h k e = cc

pub AreWords-cons : (x : ℕ) (xs : List ℕ) → x < 2 ^ 32 → AreWords xs → AreWords (x ∷ xs)
AreWords-cons x xs p q zero = p
AreWords-cons x xs p q (suc i) = q i

pub AreWords-nil : AreWords []
AreWords-nil i = omega arith

four_more : (j : ℕ) → 4 * suc j ≡ suc (suc (suc (suc (4 * j))))
four_more j = omega arith

-- the words of some words and more
pub words_of-append : (i : ℕ) (xs ys : List ℕ) → length xs ≡ 4 * i → words_of (xs ++ ys) ≡ words_of xs ++ words_of ys
words_of-append zero [] ys h = refl
words_of-append (suc i) (a ∷ b ∷ c ∷ d ∷ xs) ys h = ap (λ ws. word_of a b c d ∷ ws) (words_of-append i xs ys (omega arith))
words_of-append i xs ys h = absurd (omega arith)

pub words_of-take : (i : ℕ) (xs : List ℕ) → words_of (take (4 * i) xs) ≡ take i (words_of xs)
words_of-take zero xs = refl
words_of-take (suc i) (a ∷ b ∷ c ∷ d ∷ xs) = rw (four_more i) (ap (λ ws. word_of a b c d ∷ ws) (words_of-take i xs))
words_of-take (suc i) [] = rw (four_more i) refl
words_of-take (suc i) (a ∷ []) = rw (four_more i) refl
words_of-take (suc i) (a ∷ b ∷ []) = rw (four_more i) refl
words_of-take (suc i) (a ∷ b ∷ c ∷ []) = rw (four_more i) refl

pub words_of-drop : (i : ℕ) (xs : List ℕ) → words_of (drop (4 * i) xs) ≡ drop i (words_of xs)
words_of-drop zero xs = refl
words_of-drop (suc i) (a ∷ b ∷ c ∷ d ∷ xs) = rw (four_more i) (words_of-drop i xs)
words_of-drop (suc i) [] = rw (four_more i) refl
words_of-drop (suc i) (a ∷ []) = rw (four_more i) refl
words_of-drop (suc i) (a ∷ b ∷ []) = rw (four_more i) refl
words_of-drop (suc i) (a ∷ b ∷ c ∷ []) = rw (four_more i) refl

-- the words that are spelled most significant byte first are read again
pub words_of-spelled : (ws : List ℕ) → AreWords ws → words_of (flat_map (big_bytes 4) ws) ≡ ws
words_of-spelled [] p = refl
words_of-spelled (w ∷ ws) p =
    let fits = p 0 in
    let same : word_of (w / 16777216 % 256) (w / 65536 % 256) (w / 256 % 256) (w % 256) ≡ w = omega arith in
    ap (λ x. x ∷ words_of (flat_map (big_bytes 4) ws)) same ∙ ap (λ xs. w ∷ xs) (words_of-spelled ws (λ i. p (suc i)))

pub length-spelled : (ws : List ℕ) → length (flat_map (big_bytes 4) ws) ≡ 4 * length ws
length-spelled [] = refl
length-spelled (w ∷ ws) = omega (arith, length-spelled ws)

-- words that are written out pass a test
pub AreWords-test : (xs : List ℕ) → list_all (λ x. nat_lt x (2 ^ 32)) xs ≡ true → AreWords xs
AreWords-test [] h i = omega arith
AreWords-test (x ∷ xs) h zero = ltb-true x (2 ^ 32) (and_parts (nat_lt x (2 ^ 32)) (list_all (λ y. nat_lt y (2 ^ 32)) xs) h).0
AreWords-test (x ∷ xs) h (suc i) = AreWords-test xs (and_parts (nat_lt x (2 ^ 32)) (list_all (λ y. nat_lt y (2 ^ 32)) xs) h).1 i

pub AreBytes-take : (n : ℕ) (xs : List ℕ) → AreBytes xs → AreBytes (take n xs)
AreBytes-take zero xs p i = omega arith
AreBytes-take (suc n) [] p i = omega arith
AreBytes-take (suc n) (x ∷ xs) p zero = p 0
AreBytes-take (suc n) (x ∷ xs) p (suc i) = AreBytes-take n xs (λ k. p (suc k)) i

pub AreBytes-drop : (n : ℕ) (xs : List ℕ) → AreBytes xs → AreBytes (drop n xs)
AreBytes-drop zero xs p = p
AreBytes-drop (suc n) [] p = λ i. omega arith
AreBytes-drop (suc n) (x ∷ xs) p = AreBytes-drop n xs (λ k. p (suc k))

-- what is the same from one place on is the same from each later one on
pub same_later : (i k : ℕ) (xs ys : List ℕ) → i ≤ k → drop i xs ≡ drop i ys → drop k xs ≡ drop k ys
same_later i k xs ys h e =
    let more : k ≡ i + (k - i) = omega arith in
    ap (λ n. drop n xs) more ∙ sym (drop-drop (k - i) i xs) ∙ ap (drop (k - i)) e ∙ drop-drop (k - i) i ys ∙ ap (λ n. drop n ys) (sym more)
