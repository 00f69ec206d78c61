-- Lemmas on a piece that is copied from the front of the bytes left.
use Rattle.std.proofs.Common.{◌≡◌, ◌∙◌, sym, ap, subst, take, drop, length, ℕ, ◌+◌, List, ◌++◌, take-append-drop}
use Rattle.std.proofs.Math.Seq.{take-append_seam}
use Rattle.std.proofs.lemmas.List.{drop-drop}

-- the bytes left before a read are those copied to the front, and then those left behind it
pub copied_and_left : (bytes into copied : List ℕ) (given count : ℕ) → copied ≡ take count (drop given bytes) → length copied ≡ count
    → drop given bytes ≡ take count (copied ++ drop count into) ++ drop (given + count) bytes
copied_and_left bytes into copied given count is long =
    let rest = drop count into in
    let front : take count (copied ++ rest) ≡ copied =
    subst (λ n. take n (copied ++ rest) ≡ copied) long (take-append_seam copied rest) in
    sym (ap (λ l. l ++ drop (given + count) bytes) (front ∙ is)
    ∙ ap (λ l. take count (drop given bytes) ++ l) (sym (drop-drop count given bytes))
    ∙ take-append-drop count (drop given bytes))
