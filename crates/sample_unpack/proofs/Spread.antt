-- Four items of any width, side by side as items of 16 bits.
use Rattle.std.proofs.Common.{◌≡◌, ℕ, ◌+◌, ◌-◌, ◌*◌, ◌/◌, ◌%◌, ◌^◌, ◌<◌, ◌≤◌, sym, ap, ap₂, ◌∙◌, subst, bit_and, bit_or, add-zero, mod-eq_of_lt, arith}
use Rattle.std.proofs.lemmas.Nat.{shr_split, shr_below, mod_below, pow_pos, and_mask, and_block, or_block, or_shifted, shl_whole, and_le_r, pow-add}
use Rattle.std.proofs.lemmas.Nat.Bits.{ones_shr}
use Rattle.std.proofs.Math.Nat.{pow-le-pow_right}
use Rattle.sample_unpack.specs.Lanes.{four}
use Rattle.sample_unpack.proofs.Items.{double_is, high_item}

-- the mask of the lowest bits
pub mask_is : (w : ℕ) → w ≤ 64 → 18446744073709551615 / 2 ^ (64 - w) ≡ 2 ^ w - 1
mask_is w h = ones_shr 64 (64 - w) (omega arith) ∙ ap (λ e. 2 ^ e - 1) (omega arith)

and_none : (a : ℕ) → bit_and a 0 ≡ 0
and_none a = omega (arith, and_le_r a 0)

-- one bit of a number
pub one_bit : (k v : ℕ) → bit_and v (2 ^ k) ≡ v / 2 ^ k % 2 * 2 ^ k
one_bit k v =
    ap₂ (λ (a b : ℕ). bit_and a b) (sym (shr_split v k)) (omega arith)
    ∙ and_block k (v / 2 ^ k) 1 (v % 2 ^ k) 0 (mod_below v (2 ^ k) (pow_pos k)) (pow_pos k)
    ∙ ap₂ (λ (a b : ℕ). a * 2 ^ k + b) (and_mask (v / 2 ^ k) 1) (and_none (v % 2 ^ k))
    ∙ omega arith

-- ---- four numbers of 16 bits

pub four_and : (a b c d t : ℕ) → b < 2 ^ 16 → c < 2 ^ 16 → d < 2 ^ 16 → t < 2 ^ 16
    → bit_and (four a b c d) (four t t t t) ≡ four (bit_and a t) (bit_and b t) (bit_and c t) (bit_and d t)
four_and a b c d t hb hc hd ht =
    and_block 16 ((a * 2 ^ 16 + b) * 2 ^ 16 + c) ((t * 2 ^ 16 + t) * 2 ^ 16 + t) d t hd ht
    ∙ ap (λ n. n * 2 ^ 16 + bit_and d t)
    (and_block 16 (a * 2 ^ 16 + b) (t * 2 ^ 16 + t) c t hc ht
    ∙ ap (λ n. n * 2 ^ 16 + bit_and c t) (and_block 16 a t b t hb ht))

pub four_times : (a b c d k : ℕ) → four a b c d * k ≡ four (a * k) (b * k) (c * k) (d * k)
four_times a b c d k = omega arith

pub four_plus : (a b c d e f g h : ℕ) → four a b c d + four e f g h ≡ four (a + e) (b + f) (c + g) (d + h)
four_plus a b c d e f g h = omega arith

pub four_below : (a b c d : ℕ) → a < 2 ^ 16 → b < 2 ^ 16 → c < 2 ^ 16 → d < 2 ^ 16 → four a b c d < 2 ^ 64
four_below a b c d ha hb hc hd = omega arith

-- ---- two pairs of items, each pair in 32 bits

-- what the code computes of the mask for both
pub record Masks (w mask : ℕ) : Type 0 where
  pub low : mask ≡ (2 ^ w - 1) * 2 ^ 32 + (2 ^ w - 1)
  pub fits : mask < 2 ^ 48
  pub high : mask * 2 ^ w % 2 ^ 64 ≡ (2 ^ w - 1) * 2 ^ w * 2 ^ 32 + (2 ^ w - 1) * 2 ^ w

power_most : (w : ℕ) → w ≤ 16 → 2 ^ w ≤ 2 ^ 16
power_most w h = pow-le-pow_right {n = 2} (omega arith) {i = w} {j = 16} h

pub masks : (w : ℕ) → w ≤ 16 → Masks w (18446744073709551615 / 2 ^ (64 - w) * 4294967297)
masks w h =
    let most = power_most w h in
    let low : 18446744073709551615 / 2 ^ (64 - w) * 4294967297 ≡ (2 ^ w - 1) * 2 ^ 32 + (2 ^ w - 1) = ap (λ n. n * 4294967297) (mask_is w (omega arith)) ∙ omega arith in
    let fits : 18446744073709551615 / 2 ^ (64 - w) * 4294967297 < 2 ^ 48 = omega arith in
    record {
      low = low;
      fits = fits;
      high = shl_whole (18446744073709551615 / 2 ^ (64 - w) * 4294967297) 48 w 64 fits (omega arith) ∙ ap (λ n. n * 2 ^ w) low ∙ omega arith;
    }

pub pairs_apart : (w x : ℕ) → w ≤ 16 → x < 2 ^ (4 * w)
    → bit_or (x / 2 ^ (2 * w) * 2 ^ 32 % 2 ^ 64) (bit_and x (18446744073709551615 / 2 ^ (64 - 2 * w))) ≡ x / 2 ^ (2 * w) * 2 ^ 32 + x % 2 ^ (2 * w)
pairs_apart w x h f =
    let twice : 4 * w ≡ 2 * w + 2 * w = omega arith in
    let high : x / 2 ^ (2 * w) < 2 ^ (2 * w) = shr_below x (2 * w) (2 * w) (subst (λ e. x < 2 ^ e) twice f) in
    let most : 2 ^ (2 * w) ≤ 2 ^ 32 = pow-le-pow_right {n = 2} (omega arith) {i = 2 * w} {j = 32} (omega arith) in
    let low : x % 2 ^ (2 * w) < 2 ^ 32 = omega (arith, mod_below x (2 ^ (2 * w)) (pow_pos (2 * w))) in
    ap₂ (λ (a b : ℕ). bit_or a b) (shl_whole (x / 2 ^ (2 * w)) (2 * w) 32 64 high (omega arith)) (ap (bit_and x) (mask_is (2 * w) (omega arith)) ∙ and_mask x (2 * w))
    ∙ or_shifted (x / 2 ^ (2 * w)) 32 (x % 2 ^ (2 * w)) low

-- the first item of a pair, where it stands
first_of_pair : (w v : ℕ) → v < 2 ^ (2 * w) → bit_and v ((2 ^ w - 1) * 2 ^ w) ≡ v / 2 ^ w * 2 ^ w
first_of_pair w v h =
    ap₂ (λ (a b : ℕ). bit_and a b) (sym (shr_split v w)) (sym (add-zero ((2 ^ w - 1) * 2 ^ w)))
    ∙ and_block w (v / 2 ^ w) (2 ^ w - 1) (v % 2 ^ w) 0 (mod_below v (2 ^ w) (pow_pos w)) (pow_pos w)
    ∙ ap₂ (λ (a b : ℕ). a * 2 ^ w + b) (and_mask (v / 2 ^ w) w ∙ mod-eq_of_lt (high_item w v h)) (and_none (v % 2 ^ w))
    ∙ add-zero (v / 2 ^ w * 2 ^ w)

-- two pairs, of which the code takes the first items, moves them and puts the second ones beside them
pub record Pairs (w h l mask : ℕ) : Type 0 where
  pub first : bit_and (h * 2 ^ 32 + l) (mask * 2 ^ w % 2 ^ 64) * 2 ^ (16 - w) % 2 ^ 64 ≡ h / 2 ^ w * 2 ^ 16 * 2 ^ 32 + l / 2 ^ w * 2 ^ 16
  pub second : bit_and (h * 2 ^ 32 + l) mask ≡ h % 2 ^ w * 2 ^ 32 + l % 2 ^ w
  pub both : bit_or (h / 2 ^ w * 2 ^ 16 * 2 ^ 32 + l / 2 ^ w * 2 ^ 16) (h % 2 ^ w * 2 ^ 32 + l % 2 ^ w) ≡ four (h / 2 ^ w) (h % 2 ^ w) (l / 2 ^ w) (l % 2 ^ w)

square : (w : ℕ) → 2 ^ w * 2 ^ w ≡ 2 ^ (2 * w)
square w = sym (pow-add 2 w w) ∙ ap (λ e. 2 ^ e) (sym (double_is w))

pub pairs : (w h l mask : ℕ) → w ≤ 16 → h < 2 ^ (2 * w) → l < 2 ^ (2 * w) → Masks w mask → Pairs w h l mask
pairs w h l mask most hh hl m =
    let p = 2 ^ w in
    let power = power_most w most in
    let all : 2 ^ (2 * w) ≤ 2 ^ 32 = pow-le-pow_right {n = 2} (omega arith) {i = 2 * w} {j = 32} (omega arith) in
    let a : h / p < p = high_item w h hh in
    let c : l / p < p = high_item w l hl in
    let b : h % p < p = mod_below h p (pow_pos w) in
    let d : l % p < p = mod_below l p (pow_pos w) in
    let part : (p - 1) * p < 2 ^ 32 = omega (arith, square w, pow_pos w) in
    let whole : w + (16 - w) ≡ 16 = omega arith in
    let shift : p * 2 ^ (16 - w) ≡ 2 ^ 16 = sym (pow-add 2 w (16 - w)) ∙ ap (λ e. 2 ^ e) whole in
    let taken : bit_and (h * 2 ^ 32 + l) (mask * p % 2 ^ 64) ≡ h / p * p * 2 ^ 32 + l / p * p =
    ap (bit_and (h * 2 ^ 32 + l)) m.high
    ∙ and_block 32 h ((p - 1) * p) l ((p - 1) * p) (omega arith) part
    ∙ ap₂ (λ (x y : ℕ). x * 2 ^ 32 + y) (first_of_pair w h hh) (first_of_pair w l hl) in
    let left : h / p * (p * 2 ^ (16 - w)) ≡ h / p * 2 ^ 16 = ap (λ n. h / p * n) shift in
    let right : l / p * (p * 2 ^ (16 - w)) ≡ l / p * 2 ^ 16 = ap (λ n. l / p * n) shift in
    let moved : (h / p * p * 2 ^ 32 + l / p * p) * 2 ^ (16 - w) ≡ h / p * 2 ^ 16 * 2 ^ 32 + l / p * 2 ^ 16 = omega arith in
    let fits : h / p * 2 ^ 16 * 2 ^ 32 + l / p * 2 ^ 16 < 2 ^ 64 = omega arith in
    record {
      first = ap (λ n. n * 2 ^ (16 - w) % 2 ^ 64) taken ∙ ap (λ n. n % 2 ^ 64) moved ∙ mod-eq_of_lt fits;
      second = ap (bit_and (h * 2 ^ 32 + l)) m.low ∙ and_block 32 h (p - 1) l (p - 1) (omega arith) (omega arith) ∙ ap₂ (λ (x y : ℕ). x * 2 ^ 32 + y) (and_mask h w) (and_mask l w);
      both =
          or_block 32 (h / p * 2 ^ 16) (h % p) (l / p * 2 ^ 16) (l % p) (omega arith) (omega arith)
          ∙ ap₂ (λ (x y : ℕ). x * 2 ^ 32 + y) (or_shifted (h / p) 16 (h % p) (omega arith)) (or_shifted (l / p) 16 (l % p) (omega arith))
          ∙ omega arith;
    }
