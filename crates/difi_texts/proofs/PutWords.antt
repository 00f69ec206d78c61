-- The word in front of the digits of a number, in one array.
use Rattle.std.proofs.Common.{◌≡◌, ℕ, ◌+◌, ◌≤◌, List, [], ◌++◌, length, take, drop, ap, ◌∙◌, append-nil, length-append, arith}
use Rattle.std.proofs.Math.Seq.{drop-append-add}
use Rattle.std.proofs.lemmas.List.{drop-drop, drop_all, drop_at, length-drop, length-take-le}
use borrow.Rule.Slice.PartMut.{put_mid}

-- a part that is written, and what stands behind it
drop_to_part : (a k : ℕ) (xs ys : List ℕ) → a ≤ length xs → drop a (put_mid a k xs ys) ≡ ys ++ drop (a + k) xs
drop_to_part a k xs ys h =
    drop_at (take a xs) (ys ++ drop k (drop a xs)) a (length-take-le a xs h) ∙ ap (λ l. ys ++ l) (drop-drop k a xs)

places_put : (line digits : List ℕ) → length line ≡ 26 → length digits ≡ 20 → length (put_mid 6 20 line digits) ≡ 26
places_put line digits size places =
    length-append (take 6 line) (digits ++ drop 20 (drop 6 line))
    ∙ omega (arith, length-take-le 6 line (omega arith), length-append digits (drop 20 (drop 6 line)), places, length-drop 20 (drop 6 line), length-drop 6 line, size)

pub words_put : (line digits word : List ℕ) (start k : ℕ) → length line ≡ 26 → length digits ≡ 20 → length word ≡ 6 → start ≤ 20 → k ≡ 6
    → drop start (put_mid start k (put_mid 6 20 line digits) word) ≡ word ++ drop start digits
words_put line digits word start k size places six within e =
    let mid = put_mid 6 20 line digits in
    let front : length (take 6 line) ≡ 6 = length-take-le 6 line (omega arith) in
    let long = places_put line digits size places in
    let none : drop 20 (drop 6 line) ≡ [] = drop-drop 20 6 line ∙ drop_all 26 line (omega (arith, size)) in
    let behind : drop (start + k) mid ≡ drop start digits =
    ap (λ n. drop n mid) (omega (arith, front, e)) ∙ drop-append-add (take 6 line) (digits ++ drop 20 (drop 6 line)) start
    ∙ ap (λ l. drop start (digits ++ l)) none ∙ ap (drop start) (append-nil digits) in
    drop_to_part start k mid word (omega (arith, long)) ∙ ap (λ l. word ++ l) behind
