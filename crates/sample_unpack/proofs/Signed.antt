-- Numbers in two's complement, by their bits.
use Rattle.std.proofs.Common.{◌≡◌, ℕ, zero, suc, ◌+◌, ◌*◌, ◌/◌, ◌%◌, ◌^◌, ◌<◌, pos, ◌-ℤ◌, sym, ap, ap₂, ◌∙◌, bit_xor, subst, one-add, mod-eq_of_lt, arith}
use Rattle.std.proofs.lemmas.Int.{ints}
use Rattle.std.proofs.lemmas.Nat.{shr_split, xor_block, pow_pos, shr_below, mod_below}
use Rattle.std.specs.Int.Bits.{xor_zero_r}
use Rattle.sample_unpack.specs.Bits.{bits_of, signed_number_of}
use Rattle.sample_unpack.proofs.Bits.{length-bits_of, number_of-bits_of}

-- the first bit of suc w, and the rest
pub signed_number_of-bits_of : (w n : ℕ) → signed_number_of (bits_of (suc w) n) ≡ pos (n % 2 ^ w) -ℤ pos (n / 2 ^ w % 2 * 2 ^ w)
unfolding bits_of signed_number_of
signed_number_of-bits_of w n =
    ap₂ (λ (m l : ℕ). pos m -ℤ pos (n / 2 ^ w % 2 * 2 ^ l)) (number_of-bits_of w n) (length-bits_of w n)

-- the first bit is turned, and then its worth is taken away
turned : (t w r : ℕ) → t < 2 → r < 2 ^ w → pos (bit_xor (t * 2 ^ w + r) (1 * 2 ^ w + 0)) -ℤ pos (2 ^ w) ≡ pos r -ℤ pos (t * 2 ^ w)
turned zero w r h l =
    let e : bit_xor (0 * 2 ^ w + r) (1 * 2 ^ w + 0) ≡ 1 * 2 ^ w + r = xor_block w 0 1 r 0 l (pow_pos w) ∙ ap (λ x. 1 * 2 ^ w + x) (xor_zero_r r) in
    omega (arith, ints)
turned (suc zero) w r h l =
    let e : bit_xor (1 * 2 ^ w + r) (1 * 2 ^ w + 0) ≡ 0 * 2 ^ w + r = xor_block w 1 1 r 0 l (pow_pos w) ∙ ap (λ x. 0 * 2 ^ w + x) (xor_zero_r r) in
    omega (arith, ints)
turned (suc (suc t)) w r h l = absurd (omega arith)

-- what the code makes of an item: its first bit turned, less that bit's worth
pub sign_by_xor : (w v : ℕ) → v < 2 ^ suc w → pos (bit_xor v (2 ^ w)) -ℤ pos (2 ^ w) ≡ signed_number_of (bits_of (suc w) v)
sign_by_xor w v h =
    let top : v / 2 ^ w < 2 = shr_below v 1 w (subst (λ k. v < 2 ^ k) (sym (one-add w)) h) in
    ap₂ (λ (a b : ℕ). pos (bit_xor a b) -ℤ pos (2 ^ w)) (sym (shr_split v w)) (omega arith)
    ∙ turned (v / 2 ^ w) w (v % 2 ^ w) top (mod_below v (2 ^ w) (pow_pos w))
    ∙ ap (λ t. pos (v % 2 ^ w) -ℤ pos (t * 2 ^ w)) (sym (mod-eq_of_lt top))
    ∙ sym (signed_number_of-bits_of w v)
