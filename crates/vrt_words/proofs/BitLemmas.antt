-- Masks and shifts of a 32-bit word as quotients and remainders.
use Rattle.std.proofs.Common.{◌≡◌, ℕ, zero, suc, ◌+◌, ◌-◌, ◌*◌, ◌/◌, ◌%◌, ◌^◌, ◌<◌, ◌≤◌, sym, ap, subst, ◌∙◌, arith}
use Rattle.std.specs.Int.Bits.{bit_and, bit_or, and_block, or_block}
use Rattle.std.proofs.lemmas.Nat.{pow_pos, pow-add, and_mask, and_comm, and-not, or_shifted, shr_high, mod_low, shr_split, shl_whole, shr-shr, or_comm, mod_below}
use Rattle.std.proofs.Math.Nat.{mod-eq_of_lt, add-zero}
use Rattle.std.proofs.Math.Pow.{pow_mono}
use Rattle.vrt_words.specs.Words.{bits}

ones_split : (p q : ℕ) → 0 < p → 0 < q → p * q - 1 ≡ (p - 1) * q + (q - 1)
ones_split zero q h k = absurd (omega arith)
ones_split (suc p) q h k =
    let e : suc p - 1 ≡ p = omega arith in
    rw e (omega arith)

-- the word of ones moved down to width of them
pub low_ones : (width : ℕ) → width ≤ 32 → 4294967295 / 2 ^ (32 - width) ≡ 2 ^ width - 1
low_ones width h =
    let rest = 32 - width in
    let all : width + rest ≡ 32 = omega arith in
    let a = pow_pos width in
    let b = pow_pos rest in
    let whole : 2 ^ width * 2 ^ rest ≡ 4294967296 = sym (pow-add 2 width rest) ∙ ap (λ n. 2 ^ n) all in
    let ones : 4294967295 ≡ (2 ^ width - 1) * 2 ^ rest + (2 ^ rest - 1) =
    ap (λ n. n - 1) (sym whole) ∙ ones_split (2 ^ width) (2 ^ rest) a b in
    ap (λ n. n / 2 ^ rest) ones ∙ shr_high (2 ^ width - 1) rest (2 ^ rest - 1) (omega arith)

-- ones with low zeros below them, as a part of a word
pub field_mask : (low width : ℕ) → low + width ≤ 32 → (2 ^ width - 1) * 2 ^ low < 4294967296
field_mask low width h =
    let a = pow_pos width in
    let b = pow_pos low in
    let whole : 2 ^ width * 2 ^ low ≤ 4294967296 = subst (λ n. n ≤ 4294967296) (pow-add 2 width low) (pow_mono {i = width + low} {j = 32} (omega arith)) in
    omega (arith, ones_split (2 ^ width) (2 ^ low) a b)

module _ (word low width value : ℕ) (within : low + width ≤ 32) (fits : word < 4294967296) (small : value < 2 ^ width) where
  -- the word is what lies above the field, the field, and what lies below it
  parts : word ≡ (word / 2 ^ (low + width) * 2 ^ width + word / 2 ^ low % 2 ^ width) * 2 ^ low + word % 2 ^ low
  parts =
      sym (shr_split word low)
      ∙ ap (λ q. q * 2 ^ low + word % 2 ^ low) (sym (shr_split (word / 2 ^ low) width))
      ∙ ap (λ a. (a * 2 ^ width + word / 2 ^ low % 2 ^ width) * 2 ^ low + word % 2 ^ low) (shr-shr word low width)

  field : bit_and ((2 ^ width - 1) * 2 ^ low) word ≡ word / 2 ^ low % 2 ^ width * 2 ^ low
  field =
      ap (λ m. bit_and m word) (sym (add-zero ((2 ^ width - 1) * 2 ^ low)))
      ∙ ap (bit_and ((2 ^ width - 1) * 2 ^ low + 0)) (sym (shr_split word low))
      ∙ and_block low (2 ^ width - 1) (word / 2 ^ low) 0 (word % 2 ^ low) (pow_pos low) (mod_below word (2 ^ low) (pow_pos low))
      ∙ add-zero (bit_and (2 ^ width - 1) (word / 2 ^ low) * 2 ^ low)
      ∙ ap (λ f. f * 2 ^ low) (and_comm (2 ^ width - 1) (word / 2 ^ low) ∙ and_mask (word / 2 ^ low) width)

  -- the word without the field
  pub cleared : bit_and word (4294967295 - (2 ^ width - 1) * 2 ^ low) ≡ word / 2 ^ (low + width) * 2 ^ width * 2 ^ low + word % 2 ^ low
  cleared =
      let both = and-not 32 ((2 ^ width - 1) * 2 ^ low) word (field_mask low width within) fits in
      and_comm word (4294967295 - (2 ^ width - 1) * 2 ^ low) ∙ omega (arith, both, field, parts)

  pub joined : bit_or (word / 2 ^ (low + width) * 2 ^ width * 2 ^ low + word % 2 ^ low) (value * 2 ^ low)
      ≡ (word / 2 ^ (low + width) * 2 ^ width + value) * 2 ^ low + word % 2 ^ low
  joined =
      ap (bit_or (word / 2 ^ (low + width) * 2 ^ width * 2 ^ low + word % 2 ^ low)) (sym (add-zero (value * 2 ^ low)))
      ∙ or_block low (word / 2 ^ (low + width) * 2 ^ width) value (word % 2 ^ low) 0 (mod_below word (2 ^ low) (pow_pos low)) (pow_pos low)
      ∙ ap (λ n. bit_or (word / 2 ^ (low + width) * 2 ^ width) value * 2 ^ low + n) (or_comm (word % 2 ^ low) 0)
      ∙ ap (λ n. n * 2 ^ low + word % 2 ^ low) (or_shifted (word / 2 ^ (low + width)) width value small)

  -- what the masks and shifts of the code give
  pub replaced : bit_or (bit_and word (4294967295 - 4294967295 / 2 ^ (32 - width) * 2 ^ low % 4294967296)) (value * 2 ^ low % 4294967296)
      ≡ (word / 2 ^ (low + width) * 2 ^ width + value) * 2 ^ low + word % 2 ^ low
  replaced =
      rw (low_ones width (omega arith), mod-eq_of_lt (field_mask low width within), shl_whole value width low 32 small (omega arith), cleared) joined

  result : ℕ
  result = (word / 2 ^ (low + width) * 2 ^ width + value) * 2 ^ low + word % 2 ^ low

  above : result / 2 ^ low ≡ word / 2 ^ (low + width) * 2 ^ width + value
  unfolding result
  above = shr_high (word / 2 ^ (low + width) * 2 ^ width + value) low (word % 2 ^ low) (mod_below word (2 ^ low) (pow_pos low))

  pub field-replaced : bits ((word / 2 ^ (low + width) * 2 ^ width + value) * 2 ^ low + word % 2 ^ low) low width ≡ value
  unfolding result
  field-replaced = ap (λ n. n % 2 ^ width) above ∙ mod_low (word / 2 ^ (low + width)) width value small

  pub below-replaced : ((word / 2 ^ (low + width) * 2 ^ width + value) * 2 ^ low + word % 2 ^ low) % 2 ^ low ≡ word % 2 ^ low
  below-replaced = mod_low (word / 2 ^ (low + width) * 2 ^ width + value) low (word % 2 ^ low) (mod_below word (2 ^ low) (pow_pos low))

  pub above-replaced : ((word / 2 ^ (low + width) * 2 ^ width + value) * 2 ^ low + word % 2 ^ low) / 2 ^ (low + width) ≡ word / 2 ^ (low + width)
  unfolding result
  above-replaced =
      sym (shr-shr ((word / 2 ^ (low + width) * 2 ^ width + value) * 2 ^ low + word % 2 ^ low) low width)
      ∙ ap (λ n. n / 2 ^ width) above ∙ shr_high (word / 2 ^ (low + width)) width value small
