-- Words in a row, read and written.
use Rattle.std.proofs.Common.{◌≡◌, ℕ, ◌+◌, ◌*◌, ◌<◌, ◌≤◌, List, ◌++◌, length, take, drop, get_or, refl, sym, ap, ◌∙◌, length-take, length-drop, arith}
use Rattle.std.proofs.lemmas.List.{length-take-le, drop-drop, drop_at, get_or-take, get_or-drop}
use Rattle.std.proofs.lemmas.Grind.{same_number_lists}
use Rattle.std.specs.List.{flat_map}
use Rattle.byteorder.specs.Endian.{big_bytes, big_number, IsRead}
use borrow.Rule.Slice.PartMut.{put_mid}
use Rattle.vrt_words.specs.Words.{words_of, AreWords}
use Rattle.vrt_words.proofs.WordLaws.{length-words_of, words_of-append, words_of-take, words_of-drop, words_of-spelled, length-spelled}
use Rattle.vrt_words.proofs.WordLemmas.{word_in-there}

-- the words of bytes among which a row of words was written
pub words_of-row : (bytes ws : List ℕ) (i k : ℕ) → AreWords ws → 4 * (i + length ws) ≤ length bytes → k ≡ 4 * length ws
    → words_of (take (4 * i) bytes ++ (flat_map (big_bytes 4) ws ++ drop k (drop (4 * i) bytes))) ≡ take i (words_of bytes) ++ (ws ++ drop (i + length ws) (words_of bytes))
words_of-row bytes ws i k fits h e =
    let n = length ws in
    let rest = drop k (drop (4 * i) bytes) in
    let behind : rest ≡ drop (4 * (i + n)) bytes = drop-drop k (4 * i) bytes ∙ ap (λ m. drop m bytes) (omega arith) in
    words_of-append i (take (4 * i) bytes) (flat_map (big_bytes 4) ws ++ rest) (length-take-le (4 * i) bytes (omega arith))
    ∙ ap (λ xs. xs ++ words_of (flat_map (big_bytes 4) ws ++ rest)) (words_of-take i bytes)
    ∙ ap (λ xs. take i (words_of bytes) ++ xs) (words_of-append n (flat_map (big_bytes 4) ws) rest (length-spelled ws)
    ∙ ap (λ xs. xs ++ words_of rest) (words_of-spelled ws fits) ∙ ap (λ xs. ws ++ words_of xs) behind ∙ ap (λ xs. ws ++ xs) (words_of-drop (i + n) bytes))

-- the bytes behind it
pub behind-row : (bytes ws : List ℕ) (i k : ℕ) → 4 * (i + length ws) ≤ length bytes → k ≡ 4 * length ws
    → drop (4 * (i + length ws)) (take (4 * i) bytes ++ (flat_map (big_bytes 4) ws ++ drop k (drop (4 * i) bytes))) ≡ drop (4 * (i + length ws)) bytes
behind-row bytes ws i k h e =
    let n = length ws in
    let spelled = flat_map (big_bytes 4) ws in
    let rest = drop k (drop (4 * i) bytes) in
    let split : 4 * (i + n) ≡ 4 * i + 4 * n = omega arith in
    ap (λ m. drop m (take (4 * i) bytes ++ (spelled ++ rest))) split
    ∙ sym (drop-drop (4 * n) (4 * i) (take (4 * i) bytes ++ (spelled ++ rest)))
    ∙ ap (drop (4 * n)) (drop_at (take (4 * i) bytes) (spelled ++ rest) (4 * i) (length-take-le (4 * i) bytes (omega arith)))
    ∙ drop_at spelled rest (4 * n) (length-spelled ws)
    ∙ drop-drop k (4 * i) bytes ∙ ap (λ m. drop m bytes) (omega arith)

row_number : (bytes : List ℕ) (i j k : ℕ) → 4 * j + 4 ≤ k → big_number 4 (drop (4 * j) (take k (drop (4 * i) bytes))) ≡ big_number 4 (drop (4 * (i + j)) bytes)
row_number bytes i j k h =
    let at : (t : ℕ) → t < 4 → get_or (drop (4 * j) (take k (drop (4 * i) bytes))) t 0 ≡ get_or (drop (4 * (i + j)) bytes) t 0 =
    λ t lt. get_or-drop (4 * j) (take k (drop (4 * i) bytes)) t 0 ∙ get_or-take k (drop (4 * i) bytes) (4 * j + t) 0 (omega arith)
    ∙ get_or-drop (4 * i) bytes (4 * j + t) 0 ∙ ap (λ m. get_or bytes m 0) (omega arith) ∙ sym (get_or-drop (4 * (i + j)) bytes t 0) in
    rw (at 0 (omega arith), at 1 (omega arith), at 2 (omega arith), at 3 (omega arith)) refl

-- words that were read in a row are those from the place on
pub read-row : (bytes got : List ℕ) (i k : ℕ) → 4 * (i + length got) ≤ length bytes → k ≡ 4 * length got
    → IsRead big_number 4 (take k (drop (4 * i) bytes)) got → got ≡ take (length got) (drop i (words_of bytes))
read-row bytes got i k h e read =
    let there = length-words_of bytes in
    same_number_lists got (take (length got) (drop i (words_of bytes)))
    (omega (arith, length-take (length got) (drop i (words_of bytes)), length-drop i (words_of bytes), there.1))
    (λ j lt. read j lt ∙ row_number bytes i j k (omega arith) ∙ word_in-there bytes (i + j) (omega arith)
    ∙ sym (get_or-take (length got) (drop i (words_of bytes)) j 0 lt ∙ get_or-drop i (words_of bytes) j 0))

-- what the slice that was written leaves of the bytes
pub row-is : (bytes new ws : List ℕ) (i k : ℕ) → new ≡ flat_map (big_bytes 4) ws → put_mid (4 * i) k bytes new ≡ take (4 * i) bytes ++ (flat_map (big_bytes 4) ws ++ drop k (drop (4 * i) bytes))
row-is bytes new ws i k e = ap (λ xs. take (4 * i) bytes ++ (xs ++ drop k (drop (4 * i) bytes))) e
