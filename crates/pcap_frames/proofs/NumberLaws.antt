-- Laws of the numbers in bytes: a number depends on its own bytes alone.
use Rattle.std.proofs.Common.{◌≡◌, ℕ, zero, suc, ◌+◌, ◌≤◌, Bool, true, false, List, ◌++◌, length, take, drop, refl, sym, ap, ◌∙◌, arith}
use Rattle.std.proofs.lemmas.List.{get_or-drop, take-append-le}
use Rattle.byteorder.specs.Endian.{big_from, little_from}
use Rattle.byteorder.specs.Numbers.{big_from-take, little_from-take}
use Rattle.pcap_frames.specs.Numbers.{number_in}

big_from-drop : (k i n : ℕ) (xs : List ℕ) → big_from i n (drop k xs) ≡ big_from (k + i) n xs
big_from-drop k i zero xs = refl
big_from-drop k i (suc n) xs =
    let byte = get_or-drop k xs i 0 in
    let rest = big_from-drop k (suc i) n xs in
    let e : k + suc i ≡ suc (k + i) = omega arith in
    rw (byte, rest, e) refl

little_from-drop : (k i n : ℕ) (xs : List ℕ) → little_from i n (drop k xs) ≡ little_from (k + i) n xs
little_from-drop k i zero xs = refl
little_from-drop k i (suc n) xs =
    let byte = get_or-drop k xs i 0 in
    let rest = little_from-drop k (suc i) n xs in
    let e : k + suc i ≡ suc (k + i) = omega arith in
    rw (byte, rest, e) refl

-- bytes dropped in front
pub big_number : (big : Bool) (offset width : ℕ) (bytes : List ℕ) → big ≡ true → big_from 0 width (drop offset bytes) ≡ number_in big offset width bytes
unfolding number_in
big_number true offset width bytes h =
    let e : offset + 0 ≡ offset = omega arith in
    big_from-drop offset 0 width bytes ∙ ap (λ o. big_from o width bytes) e
big_number false offset width bytes h = absurd (cc)

pub little_number : (big : Bool) (offset width : ℕ) (bytes : List ℕ) → big ≡ false → little_from 0 width (drop offset bytes) ≡ number_in big offset width bytes
unfolding number_in
little_number true offset width bytes h = absurd (cc)
little_number false offset width bytes h =
    let e : offset + 0 ≡ offset = omega arith in
    little_from-drop offset 0 width bytes ∙ ap (λ o. little_from o width bytes) e

-- bytes behind
pub number_in-take : (big : Bool) (offset width end : ℕ) (bytes : List ℕ) → offset + width ≤ end
    → number_in big offset width (take end bytes) ≡ number_in big offset width bytes
unfolding number_in
number_in-take true offset width end bytes h = big_from-take offset width end bytes h
number_in-take false offset width end bytes h = little_from-take offset width end bytes h

pub number_in-append : (big : Bool) (offset width : ℕ) (front back : List ℕ) → offset + width ≤ length front
    → number_in big offset width (front ++ back) ≡ number_in big offset width front
number_in-append big offset width front back h =
    sym (number_in-take big offset width (offset + width) (front ++ back) (omega arith))
    ∙ ap (number_in big offset width) (take-append-le (offset + width) front back h)
    ∙ number_in-take big offset width (offset + width) front (omega arith)

-- bytes that are alike up to its end have one number
pub same_number : (big : Bool) (offset width end : ℕ) (a b : List ℕ) → offset + width ≤ end → take end a ≡ take end b
    → number_in big offset width a ≡ number_in big offset width b
same_number big offset width end a b h e =
    sym (number_in-take big offset width end a h) ∙ ap (number_in big offset width) e ∙ number_in-take big offset width end b h
