-- Laws of the numbers in bytes: a number depends on its own bytes alone.
use Rattle.std.proofs.Common.{◌≡◌, ℕ, zero, suc, ◌+◌, ◌≤◌, List, ◌++◌, length, take, drop, refl, sym, ap, ◌∙◌, arith}
use Rattle.std.proofs.lemmas.List.{get_or-drop, take-append-le}
use Rattle.byteorder.specs.Endian.{big_from}
use Rattle.byteorder.specs.Numbers.{big_from-take}
use Rattle.replay_form.specs.Numbers.{number_at}

big_from-drop : (k i n : ℕ) (xs : List ℕ) → big_from i n (drop k xs) ≡ big_from (k + i) n xs
big_from-drop k i zero xs = refl
big_from-drop k i (suc n) xs =
    let byte = get_or-drop k xs i 0 in
    let rest = big_from-drop k (suc i) n xs in
    let e : k + suc i ≡ suc (k + i) = omega arith in
    rw (byte, rest, e) refl

-- bytes dropped in front
pub number_at-drop : (offset width : ℕ) (bytes : List ℕ) → big_from 0 width (drop offset bytes) ≡ number_at offset width bytes
unfolding number_at
number_at-drop offset width bytes =
    let e : offset + 0 ≡ offset = omega arith in
    big_from-drop offset 0 width bytes ∙ ap (λ o. big_from o width bytes) e

-- bytes behind
pub number_at-take : (offset width end : ℕ) (bytes : List ℕ) → offset + width ≤ end → number_at offset width (take end bytes) ≡ number_at offset width bytes
unfolding number_at
number_at-take offset width end bytes h = big_from-take offset width end bytes h

pub number_at-append : (offset width : ℕ) (front back : List ℕ) → offset + width ≤ length front → number_at offset width (front ++ back) ≡ number_at offset width front
number_at-append offset width front back h =
    sym (number_at-take offset width (offset + width) (front ++ back) (omega arith))
    ∙ ap (number_at offset width) (take-append-le (offset + width) front back h)
    ∙ number_at-take offset width (offset + width) front (omega arith)

-- a number among the bytes between two offsets
pub number_at-between : (offset size place width : ℕ) (bytes : List ℕ) → place + width ≤ size
    → big_from 0 width (drop place (take size (drop offset bytes))) ≡ number_at (offset + place) width bytes
unfolding number_at
number_at-between offset size place width bytes h =
    let e : place + 0 ≡ place = omega arith in
    big_from-drop place 0 width (take size (drop offset bytes))
    ∙ ap (λ o. big_from o width (take size (drop offset bytes))) e
    ∙ big_from-take place width size (drop offset bytes) h
    ∙ big_from-drop offset place width bytes
