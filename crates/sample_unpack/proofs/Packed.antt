-- What the code writes: items as bits, words full of bits, and what waits for the next word.
use Rattle.std.proofs.Common.{◌≡◌, ℕ, zero, suc, ◌+◌, ◌-◌, ◌*◌, ◌/◌, ◌%◌, ◌^◌, ◌<◌, ◌≤◌, ℤ, pos, negsuc, List, ◌++◌, length, take, replicate, sym, ap, ap₂, ◌∙◌, subst, bit_or, append_assoc, append-nil, of_z, mul_comm, add-zero, arith}
use Rattle.std.specs.Int.{w16, bytes_high_first}
use Rattle.std.proofs.lemmas.Int.{ints}
use Rattle.std.proofs.lemmas.Nat.{shl_whole, shl_below, or_shifted, pow-add, pow_pos, mul-add-lt}
use Rattle.std.proofs.lemmas.List.{length-take-le, take_at, take_all}
use Rattle.std.proofs.Math.Seq.{take-append-add}
use Rattle.std.proofs.Math.Nat.{pow-le-pow_right}
use Rattle.byteorder.specs.Numbers.{length-bytes_high_first}
use Rattle.sample_unpack.specs.Bits.{bits_of, bits_of_bytes, signed_bits_of, FitsBits}
use Rattle.sample_unpack.proofs.Bits.{bits_of_none, bits_of-low, bits_of-mod, bits_of-zero, bits_of_joined, bits_of_written, bits_of_bytes-append}

-- ---- items

take_once : (p x m : ℕ) → 0 < p → m ≤ x → p * x - m ≡ (p - 1) * x + (x - m)
take_once zero x m h l = absurd (omega arith)
take_once (suc p) x m h l = let e : suc p - 1 ≡ p = omega arith in rw e (omega arith)

negative_low : (w n : ℕ) → w ≤ 16 → suc n ≤ 2 ^ w → bits_of w (2 ^ 16 - suc n) ≡ bits_of w (2 ^ w - suc n)
negative_low w n h l =
    let places : 16 ≡ 16 - w + w = omega arith in
    let split : 2 ^ 16 - suc n ≡ (2 ^ (16 - w) - 1) * 2 ^ w + (2 ^ w - suc n) =
    ap (λ e. 2 ^ e - suc n) places ∙ ap (λ m. m - suc n) (pow-add 2 (16 - w) w) ∙ take_once (2 ^ (16 - w)) (2 ^ w) (suc n) (pow_pos (16 - w)) l in
    ap (bits_of w) split ∙ bits_of-low w (2 ^ (16 - w) - 1) (2 ^ w - suc n)

-- the lowest bits of a number's 16 bits in two's complement
pub low_signed_bits : (w : ℕ) (z : ℤ) → w ≤ 16 → FitsBits w z → bits_of w (of_z w16 z % 2 ^ w) ≡ signed_bits_of w z
unfolding signed_bits_of
low_signed_bits w (pos n) h f = bits_of-mod w n
low_signed_bits w (negsuc n) h f =
    let half : 2 ^ (w - 1) ≤ 2 ^ w = pow-le-pow_right (omega arith) {i = w - 1} {j = w} (omega arith) in
    let small : suc n ≤ 2 ^ w = omega (arith, ints, f.0) in
    bits_of-mod w (2 ^ 16 - suc n) ∙ negative_low w n h small

-- two numbers side by side in an integer of `all` bits
pub record Joins (j k all a b : ℕ) : Type 0 where
  pub value : bit_or (a * 2 ^ k % 2 ^ all) b ≡ a * 2 ^ k + b
  pub fits : a * 2 ^ k + b < 2 ^ (j + k)
  pub joined : bits_of (j + k) (a * 2 ^ k + b) ≡ bits_of j a ++ bits_of k b

pub joins : (j k all a b : ℕ) → j + k ≤ all → a < 2 ^ j → b < 2 ^ k → Joins j k all a b
joins j k all a b h p q =
    record {
      value = ap (λ x. bit_or x b) (shl_whole a j k all p h) ∙ or_shifted a k b q;
      fits = subst (λ m. a * 2 ^ k + b < m) (sym (pow-add 2 j k ∙ mul_comm (2 ^ j) (2 ^ k))) (mul-add-lt a (2 ^ k) b (2 ^ j) p q);
      joined = bits_of_joined j k a b q;
    }

-- ---- words

-- the front of what was written over, and a number's bytes behind it
pub written : (k at n : ℕ) (xs rest : List ℕ) → at ≤ length xs → bits_of_bytes (take (at + k) (take at xs ++ (bytes_high_first k n ++ rest))) ≡ bits_of_bytes (take at xs) ++ bits_of (8 * k) n
written k at n xs rest l =
    let front = length-take-le at xs l in
    ap (λ m. bits_of_bytes (take (m + k) (take at xs ++ (bytes_high_first k n ++ rest)))) (sym front)
    ∙ ap bits_of_bytes (take-append-add (take at xs) (bytes_high_first k n ++ rest) k ∙ ap (λ ys. take at xs ++ ys) (take_at (bytes_high_first k n) rest k (length-bytes_high_first k n)))
    ∙ bits_of_bytes-append (take at xs) (bytes_high_first k n)
    ∙ ap (λ bs. bits_of_bytes (take at xs) ++ bs) (bits_of_written k n)

-- ---- what waits at the end

-- the bits that wait, moved to the front of a word
pub record LastWord (held waiting : ℕ) : Type 0 where
  pub value : waiting * 2 ^ (32 - held) % 2 ^ 64 ≡ waiting * 2 ^ (32 - held)
  pub fits : waiting * 2 ^ (32 - held) < 2 ^ 32
  pub padded : bits_of 32 (waiting * 2 ^ (32 - held)) ≡ bits_of held waiting ++ replicate (32 - held) 0

pub last_word : (held waiting : ℕ) → held < 32 → waiting < 2 ^ held → LastWord held waiting
last_word held waiting h l =
    let rest = 32 - held in
    let whole : held + rest ≡ 32 = omega arith in
    record {
      value = shl_whole waiting held rest 64 l (omega arith);
      fits = subst (λ e. waiting * 2 ^ rest < 2 ^ e) whole (shl_below waiting held rest l);
      padded =
          ap₂ bits_of (sym whole) (sym (add-zero (waiting * 2 ^ rest)))
          ∙ bits_of_joined held rest waiting 0 (pow_pos rest)
          ∙ ap (λ bs. bits_of held waiting ++ bs) (bits_of-zero rest);
    }

pub last_written : (old new : List ℕ) (words held waiting : ℕ) → held < 32 → 0 < held → waiting < 2 ^ held → length old ≡ 4 * ((32 * words + held + 31) / 32) → length new ≡ length old → bits_of_bytes (take (4 * words + 4) new) ≡ bits_of_bytes (take (4 * words) old) ++ bits_of 32 (waiting * 2 ^ (32 - held)) → bits_of_bytes new ≡ bits_of_bytes (take (4 * words) old) ++ bits_of held waiting ++ replicate (8 * length old - (32 * words + held)) 0
last_written old new words held waiting h p l whole same e =
    let unused : 32 - held ≡ 8 * length old - (32 * words + held) = omega arith in
    ap bits_of_bytes (sym (take_all (4 * words + 4) new (omega arith)))
    ∙ e
    ∙ ap (λ bs. bits_of_bytes (take (4 * words) old) ++ bs) ((last_word held waiting h l).padded)
    ∙ sym (append_assoc (bits_of_bytes (take (4 * words) old)) (bits_of held waiting) (replicate (32 - held) 0))
    ∙ ap (λ n. bits_of_bytes (take (4 * words) old) ++ bits_of held waiting ++ replicate n 0) unused

pub nothing_waits : (old : List ℕ) (words held waiting : ℕ) → held ≡ 0 → length old ≡ 4 * ((32 * words + held + 31) / 32) → bits_of_bytes old ≡ bits_of_bytes (take (4 * words) old) ++ bits_of held waiting ++ replicate (8 * length old - (32 * words + held)) 0
nothing_waits old words held waiting z whole =
    let none : 0 ≡ 8 * length old - (32 * words + held) = omega arith in
    ap bits_of_bytes (sym (take_all (4 * words) old (omega arith)))
    ∙ sym (append-nil (bits_of_bytes (take (4 * words) old)))
    ∙ ap (λ bs. bits_of_bytes (take (4 * words) old) ++ bs) (sym (bits_of_none waiting) ∙ ap (λ w. bits_of w waiting) (sym z))
    ∙ sym (append-nil (bits_of_bytes (take (4 * words) old) ++ bits_of held waiting))
    ∙ ap (λ n. bits_of_bytes (take (4 * words) old) ++ bits_of held waiting ++ replicate n 0) none
