-- What writes leave, piece by piece.
use Rattle.std.proofs.Common.{◌≡◌, ℕ, ◌+◌, ◌*◌, ◌≤◌, ◌<◌, List, [], ◌∷◌, ◌++◌, get_or, ap₂, length, take, sym, ap, ◌∙◌, append_assoc, length-append, arith}
use Rattle.std.proofs.lemmas.List.{length-take-le, take_at}
use Rattle.std.specs.List.{flat_map}
use Rattle.std.proofs.lemmas.List.{take_more}
use Rattle.std.proofs.lemmas.List.Concat.{flat_map-append}
use Rattle.release_form.specs.Front.{high_word, low_word, count_words}
use Rattle.vrt_words.specs.Words.{words_of}
use Rattle.vrt_words.proofs.WordLaws.{words_of-take, length-words_of}

-- words that are written behind some
pub next_words : (position : ℕ) (words rest old new : List ℕ) → 4 * (position + length words) ≤ length old
    → words_of new ≡ take position (words_of old) ++ (words ++ rest)
    → words_of (take (4 * (position + length words)) new) ≡ words_of (take (4 * position) old) ++ words
next_words position words rest old new room e =
    let front = take position (words_of old) in
    let there : length front ≡ position = length-take-le position (words_of old) (omega (arith, length-words_of old)) in
    words_of-take (position + length words) new
    ∙ ap (take (position + length words)) (e ∙ sym (append_assoc front words rest))
    ∙ take_at (front ++ words) rest (position + length words) (length-append front words ∙ ap (λ n. n + length words) there)
    ∙ ap (λ xs. xs ++ words) (sym (words_of-take position old))

-- the words of one more count
pub next_count : (front : List ℕ) (index high low : ℕ) (counts old new : List ℕ) → index < length counts → high ≡ high_word (get_or counts index 0) → low ≡ low_word (get_or counts index 0)
    → words_of (take (4 * (2 + 2 * index)) old) ≡ front ++ count_words (take index counts)
    → words_of (take (4 * (2 + 2 * index + 2)) new) ≡ words_of (take (4 * (2 + 2 * index)) old) ++ (high ∷ low ∷ [])
    → words_of (take (4 * (2 + 2 * (index + 1))) new) ≡ front ++ count_words (take (index + 1) counts)
next_count front index high low counts old new there h l before now =
    let same : 4 * (2 + 2 * (index + 1)) ≡ 4 * (2 + 2 * index + 2) = omega arith in
    let words = λ (count : ℕ). high_word count ∷ low_word count ∷ [] in
    let count = get_or counts index 0 in
    ap (λ n. words_of (take n new)) same ∙ now
    ∙ ap₂ (λ (xs ys : List ℕ). xs ++ ys) before (ap₂ (λ (x y : ℕ). x ∷ y ∷ []) h l)
    ∙ append_assoc front (flat_map words (take index counts)) (words count)
    ∙ ap (λ xs. front ++ xs) (sym (ap (flat_map words) (take_more counts index 0 there) ∙ flat_map-append words (take index counts) (count ∷ [])))
