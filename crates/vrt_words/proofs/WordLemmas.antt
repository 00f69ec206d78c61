-- Words of a datagram that is read or written at one place.
use Rattle.std.proofs.Common.{◌≡◌, ℕ, zero, suc, ◌+◌, ◌*◌, ◌/◌, ◌%◌, ◌^◌, ◌<◌, ◌≤◌, List, ◌∷◌, ◌++◌, length, take, drop, set, get_or, slice_get, Some, None, refl, sym, ap, ◌∙◌, ◌-◌, length-drop, arith}
use Rattle.std.proofs.lemmas.List.{take_rest, drop_at, append-nil, length-take-le, drop-drop, drop_all}
use borrow.Rule.Slice.PartMut.{put_mid}
use Rattle.byteorder.specs.Endian.{big_number, big_bytes}
use Rattle.vrt_words.specs.Words.{word_of, words_of}

four_more : (j : ℕ) → 4 * suc j ≡ suc (suc (suc (suc (4 * j))))
four_more j = omega arith

-- a word that is there is the number in its four bytes
pub word_in-there : (bytes : List ℕ) (i : ℕ) → 4 * i + 4 ≤ length bytes → big_number 4 (drop (4 * i) bytes) ≡ get_or (words_of bytes) i 0
word_in-there (a ∷ b ∷ c ∷ d ∷ bytes) zero h = omega arith
word_in-there (a ∷ b ∷ c ∷ d ∷ bytes) (suc i) h = rw (four_more i) (word_in-there bytes i (omega arith))
word_in-there bytes i h = absurd (omega arith)

pub word_at-there : (bytes : List ℕ) (i : ℕ) → 4 * i + 4 ≤ length bytes → Some (get_or (words_of bytes) i 0) ≡ slice_get (words_of bytes) i
word_at-there (a ∷ b ∷ c ∷ d ∷ bytes) zero h = refl
word_at-there (a ∷ b ∷ c ∷ d ∷ bytes) (suc i) h = word_at-there bytes i (omega arith)
word_at-there bytes i h = absurd (omega arith)

-- there is no word where fewer bytes are
pub word_at-missing : (bytes : List ℕ) (i : ℕ) → length bytes < 4 * i + 4 → slice_get (words_of bytes) i ≡ None
word_at-missing (a ∷ b ∷ c ∷ d ∷ bytes) zero h = absurd (omega arith)
word_at-missing (a ∷ b ∷ c ∷ d ∷ bytes) (suc i) h = word_at-missing bytes i (omega arith)
word_at-missing bytes i h = refl

-- the bytes of a word make the word
pub word_of-bytes : (w : ℕ) → w < 2 ^ 32 → word_of (w / 16777216 % 256) (w / 65536 % 256) (w / 256 % 256) (w % 256) ≡ w
word_of-bytes w h = omega arith

-- the words are those from before with the one that was written
pub words_of-put : (bytes : List ℕ) (i w : ℕ) → 4 * i + 4 ≤ length bytes → w < 2 ^ 32
    → words_of (take (4 * i) bytes ++ (big_bytes 4 w ++ drop 4 (drop (4 * i) bytes))) ≡ set (words_of bytes) i w
words_of-put (a ∷ b ∷ c ∷ d ∷ bytes) zero w h fits = ap (λ x. x ∷ words_of bytes) (word_of-bytes w fits)
words_of-put (a ∷ b ∷ c ∷ d ∷ bytes) (suc i) w h fits =
    rw (four_more i) (ap (λ ws. word_of a b c d ∷ ws) (words_of-put bytes i w (omega arith) fits))
words_of-put bytes i w h fits = absurd (omega arith)

-- writing what is there changes nothing
pub put-same : (bytes : List ℕ) (i w : ℕ) → ((k : ℕ) → get_or bytes k 0 < 256) → 4 * i + 4 ≤ length bytes → slice_get (words_of bytes) i ≡ Some w
    → take (4 * i) bytes ++ (big_bytes 4 w ++ drop 4 (drop (4 * i) bytes)) ≡ bytes
put-same (a ∷ b ∷ c ∷ d ∷ bytes) zero w fits h e =
    let same : word_of a b c d ≡ w = cc in
    let p : w / 16777216 % 256 ≡ a = omega (arith, fits 0, fits 1, fits 2, fits 3) in
    let q : w / 65536 % 256 ≡ b = omega (arith, fits 0, fits 1, fits 2, fits 3) in
    let r : w / 256 % 256 ≡ c = omega (arith, fits 0, fits 1, fits 2, fits 3) in
    let s : w % 256 ≡ d = omega (arith, fits 0, fits 1, fits 2, fits 3) in
    rw (p, q, r, s) refl
put-same (a ∷ b ∷ c ∷ d ∷ bytes) (suc i) w fits h e =
    rw (four_more i) (ap (λ xs. a ∷ b ∷ c ∷ d ∷ xs) (put-same bytes i w (λ k. fits (suc (suc (suc (suc k))))) (omega arith) e))
put-same bytes i w fits h e = absurd (omega arith)

-- what a write of four bytes at a place leaves
pub put-is : (bytes new : List ℕ) (i w : ℕ) → 4 * i + 4 ≤ length bytes → new ≡ big_bytes 4 w ++ drop 4 (take (length bytes - 4 * i) (drop (4 * i) bytes))
    → put_mid (4 * i) (length bytes - 4 * i) bytes new ≡ take (4 * i) bytes ++ (big_bytes 4 w ++ drop 4 (drop (4 * i) bytes))
put-is bytes new i w h e =
    let none = drop_all (length bytes - 4 * i) (drop (4 * i) bytes) (omega (arith, length-drop (4 * i) bytes)) in
    ap (λ xs. take (4 * i) bytes ++ (xs ++ drop (length bytes - 4 * i) (drop (4 * i) bytes))) (e ∙ ap (λ xs. big_bytes 4 w ++ drop 4 xs) (take_rest bytes (4 * i)))
    ∙ ap (λ xs. take (4 * i) bytes ++ ((big_bytes 4 w ++ drop 4 (drop (4 * i) bytes)) ++ xs)) none
    ∙ ap (λ xs. take (4 * i) bytes ++ xs) (append-nil (big_bytes 4 w ++ drop 4 (drop (4 * i) bytes)))

-- the bytes behind the word
pub behind-put : (bytes : List ℕ) (i w : ℕ) → 4 * i + 4 ≤ length bytes
    → drop (4 * i + 4) (take (4 * i) bytes ++ (big_bytes 4 w ++ drop 4 (drop (4 * i) bytes))) ≡ drop (4 * i + 4) bytes
behind-put bytes i w h =
    let front = length-take-le (4 * i) bytes (omega arith) in
    sym (drop-drop 4 (4 * i) (take (4 * i) bytes ++ (big_bytes 4 w ++ drop 4 (drop (4 * i) bytes))))
    ∙ ap (drop 4) (drop_at (take (4 * i) bytes) (big_bytes 4 w ++ drop 4 (drop (4 * i) bytes)) (4 * i) front)
    ∙ drop-drop 4 (4 * i) bytes
