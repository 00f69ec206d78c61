-- Bits of numbers and of bytes, cut and joined.
use Rattle.std.proofs.Common.{◌≡◌, ℕ, zero, suc, ◌+◌, ◌*◌, ◌/◌, ◌%◌, ◌^◌, ◌<◌, ◌≤◌, List, [], ◌∷◌, ◌++◌, length, take, drop, replicate, get_or, refl, sym, ap, ap₂, ◌∙◌, suc-add, zero-add, one-add, add_comm, shr-shr, append_assoc, subst, arith}
use Rattle.std.specs.Int.{bit_at, byte_at, bytes_high_first}
use Rattle.std.proofs.lemmas.Nat.{shr_high, shr_split, mod-pow-add}
use Rattle.std.proofs.lemmas.Nat.Bits.{bit_at_cat_low, bit_at-zero}
use Rattle.std.proofs.lemmas.List.{length-append, take_at, drop_at, drop_all, take_all, drop-drop, take-take, drop-take, take-append-le, replicate-append-replicate}
use Rattle.std.proofs.Math.Seq.{take-append-add, drop-cons}
use Rattle.byteorder.specs.Endian.{big_from}
use Rattle.byteorder.specs.Numbers.{big_from-lt}
use Rattle.std.proofs.lemmas.List.Concat.{flat_map-append}
use Rattle.byteorder.proofs.Bytes.{pow256}
use Rattle.sample_unpack.specs.Bits.{bits_of, bits_of_bytes, number_of}

pub bits_of_none : (n : ℕ) → bits_of 0 n ≡ []
unfolding bits_of
bits_of_none n = refl

pub length-bits_of : (w n : ℕ) → length (bits_of w n) ≡ w
unfolding bits_of
length-bits_of zero n = refl
length-bits_of (suc w) n = ap (λ k. suc k) (length-bits_of w n)

-- the high bits, and then the low ones
pub bits_of-add : (j k n : ℕ) → bits_of (j + k) n ≡ bits_of j (n / 2 ^ k) ++ bits_of k n
unfolding bits_of
bits_of-add zero k n = ap (λ w. bits_of w n) (zero-add k)
bits_of-add (suc j) k n =
    ap (λ w. bits_of w n) (suc-add j k)
    ∙ ap₂ (λ (b : ℕ) (bs : List ℕ). b ∷ bs) (ap (λ e. n / 2 ^ e % 2) (add_comm j k) ∙ ap (λ x. x % 2) (sym (shr-shr n k j))) (bits_of-add j k n)

-- numbers that are alike below a place have the same bits there
pub same_low_bits : (w m n : ℕ) → ((i : ℕ) → i < w → bit_at m i ≡ bit_at n i) → bits_of w m ≡ bits_of w n
unfolding bits_of
same_low_bits zero m n h = refl
same_low_bits (suc w) m n h =
    ap₂ (λ (b : ℕ) (bs : List ℕ). b ∷ bs) (h w (omega arith)) (same_low_bits w m n (λ i l. h i (omega arith)))

pub bits_of-low : (w a b : ℕ) → bits_of w (a * 2 ^ w + b) ≡ bits_of w b
bits_of-low w a b = same_low_bits w (a * 2 ^ w + b) b (λ i l. bit_at_cat_low a w b i l)

pub bits_of-mod : (w n : ℕ) → bits_of w (n % 2 ^ w) ≡ bits_of w n
bits_of-mod w n = sym (bits_of-low w (n / 2 ^ w) (n % 2 ^ w)) ∙ ap (bits_of w) (shr_split n w)

-- the bits of `(a << k) + b`
pub bits_of_joined : (j k a b : ℕ) → b < 2 ^ k → bits_of (j + k) (a * 2 ^ k + b) ≡ bits_of j a ++ bits_of k b
bits_of_joined j k a b h =
    bits_of-add j k (a * 2 ^ k + b) ∙ ap₂ (λ (x y : List ℕ). x ++ y) (ap (bits_of j) (shr_high a k b h)) (bits_of-low k a b)

pub bits_of-zero : (w : ℕ) → bits_of w 0 ≡ replicate w 0
unfolding bits_of
bits_of-zero zero = refl
bits_of-zero (suc w) = ap₂ (λ (b : ℕ) (bs : List ℕ). b ∷ bs) (bit_at-zero w) (bits_of-zero w)

pub number_of-bits_of : (w n : ℕ) → number_of (bits_of w n) ≡ n % 2 ^ w
unfolding bits_of number_of
number_of-bits_of zero n = omega arith
number_of-bits_of (suc w) n =
    ap₂ (λ (l m : ℕ). n / 2 ^ w % 2 * 2 ^ l + m) (length-bits_of w n) (number_of-bits_of w n)
    ∙ sym (ap (λ k. n % 2 ^ k) (sym (one-add w)) ∙ mod-pow-add n 1 w)

-- ---- bytes

pub bits_of_bytes-append : (xs ys : List ℕ) → bits_of_bytes (xs ++ ys) ≡ bits_of_bytes xs ++ bits_of_bytes ys
unfolding bits_of_bytes
bits_of_bytes-append xs ys = flat_map-append (bits_of 8) xs ys

pub bits_of_bytes-cons : (x : ℕ) (xs : List ℕ) → bits_of_bytes (x ∷ xs) ≡ bits_of 8 x ++ bits_of_bytes xs
unfolding bits_of_bytes
bits_of_bytes-cons x xs = refl

pub bits_of_bytes-nil : bits_of_bytes [] ≡ []
unfolding bits_of_bytes
bits_of_bytes-nil = refl

pub length-bits_of_bytes : (xs : List ℕ) → length (bits_of_bytes xs) ≡ 8 * length xs
length-bits_of_bytes [] = ap length bits_of_bytes-nil
length-bits_of_bytes (x ∷ xs) =
    ap length (bits_of_bytes-cons x xs) ∙ length-append (bits_of 8 x) (bits_of_bytes xs)
    ∙ ap₂ (λ (a b : ℕ). a + b) (length-bits_of 8 x) (length-bits_of_bytes xs) ∙ omega arith

eight_more : (n : ℕ) → 8 * suc n ≡ 8 + 8 * n
eight_more n = omega arith

pub drop-bits_of_bytes : (n : ℕ) (xs : List ℕ) → bits_of_bytes (drop n xs) ≡ drop (8 * n) (bits_of_bytes xs)
drop-bits_of_bytes zero xs = refl
drop-bits_of_bytes (suc n) [] = bits_of_bytes-nil ∙ sym (drop_all (8 * suc n) (bits_of_bytes []) (rw bits_of_bytes-nil (omega arith)))
drop-bits_of_bytes (suc n) (x ∷ xs) =
    drop-bits_of_bytes n xs
    ∙ ap (drop (8 * n)) (sym (drop_at (bits_of 8 x) (bits_of_bytes xs) 8 (length-bits_of 8 x)))
    ∙ drop-drop (8 * n) 8 (bits_of 8 x ++ bits_of_bytes xs)
    ∙ ap₂ (λ (k : ℕ) (bs : List ℕ). drop k bs) (sym (eight_more n)) (sym (bits_of_bytes-cons x xs))

pub take-bits_of_bytes : (n : ℕ) (xs : List ℕ) → bits_of_bytes (take n xs) ≡ take (8 * n) (bits_of_bytes xs)
take-bits_of_bytes zero xs = bits_of_bytes-nil
take-bits_of_bytes (suc n) [] = bits_of_bytes-nil ∙ sym (take_all (8 * suc n) (bits_of_bytes []) (rw bits_of_bytes-nil (omega arith)) ∙ bits_of_bytes-nil)
take-bits_of_bytes (suc n) (x ∷ xs) =
    bits_of_bytes-cons x (take n xs)
    ∙ ap (λ bs. bits_of 8 x ++ bs) (take-bits_of_bytes n xs)
    ∙ sym (take-append-add (bits_of 8 x) (bits_of_bytes xs) (8 * n))
    ∙ ap₂ (λ (k : ℕ) (bs : List ℕ). take k bs) (ap (λ l. l + 8 * n) (length-bits_of 8 x) ∙ sym (eight_more n)) (sym (bits_of_bytes-cons x xs))

byte_at_is : (k n : ℕ) → byte_at k n ≡ n / 2 ^ (8 * k) % 2 ^ 8
byte_at_is zero n = omega arith
byte_at_is (suc k) n = ap (λ e. n / e % 256) (pow256 (suc k))

-- the bits of a number that is written as bytes, the highest first
pub bits_of_written : (k n : ℕ) → bits_of_bytes (bytes_high_first k n) ≡ bits_of (8 * k) n
unfolding bits_of
bits_of_written zero n = bits_of_bytes-nil
bits_of_written (suc k) n =
    bits_of_bytes-cons (byte_at k n) (bytes_high_first k n)
    ∙ ap₂ (λ (x y : List ℕ). x ++ y) (ap (bits_of 8) (byte_at_is k n) ∙ bits_of-mod 8 (n / 2 ^ (8 * k))) (bits_of_written k n)
    ∙ sym (ap (λ w. bits_of w n) (eight_more k) ∙ bits_of-add 8 (8 * k) n)

-- the bits of a number that is read from bytes, the highest first
pub bits_of_read : (n i : ℕ) (xs : List ℕ) → ((k : ℕ) → get_or xs k 0 < 256) → i + n ≤ length xs → bits_of (8 * n) (big_from i n xs) ≡ bits_of_bytes (take n (drop i xs))
unfolding bits_of
bits_of_read zero i xs h l = sym bits_of_bytes-nil
bits_of_read (suc n) i xs h l =
    let below : big_from (suc i) n xs < 2 ^ (8 * n) = subst (λ m. big_from (suc i) n xs < m) (pow256 n) (big_from-lt (suc i) n xs h) in
    ap₂ (λ (w m : ℕ). bits_of w (get_or xs i 0 * m + big_from (suc i) n xs)) (eight_more n) (pow256 n)
    ∙ bits_of_joined 8 (8 * n) (get_or xs i 0) (big_from (suc i) n xs) below
    ∙ ap (λ bs. bits_of 8 (get_or xs i 0) ++ bs) (bits_of_read n (suc i) xs h (omega arith))
    ∙ sym (bits_of_bytes-cons (get_or xs i 0) (take n (drop (suc i) xs)))
    ∙ ap (λ ys. bits_of_bytes (take (suc n) ys)) (sym (drop-cons xs i 0 (omega arith)))

-- a stretch of a number's bits is what is left of it by a shift
pub stretch_of : (a k r n : ℕ) → take k (drop a (bits_of (a + k + r) n)) ≡ bits_of k (n / 2 ^ r)
stretch_of a k r n =
    ap (λ bs. take k (drop a bs)) (bits_of-add (a + k) r n ∙ ap (λ bs. bs ++ bits_of r n) (bits_of-add a k (n / 2 ^ r)) ∙ append_assoc (bits_of a (n / 2 ^ r / 2 ^ k)) (bits_of k (n / 2 ^ r)) (bits_of r n))
    ∙ ap (take k) (drop_at (bits_of a (n / 2 ^ r / 2 ^ k)) (bits_of k (n / 2 ^ r) ++ bits_of r n) a (length-bits_of a (n / 2 ^ r / 2 ^ k)))
    ∙ take_at (bits_of k (n / 2 ^ r)) (bits_of r n) k (length-bits_of k (n / 2 ^ r))

-- a stretch that lies within the first `size` places of a list is the same after the list is cut there and padded
pub stretch_within : (a k size : ℕ) (xs ys : List ℕ) → a + k ≤ size → a + k ≤ length xs → take k (drop a (take size (xs ++ ys))) ≡ take k (drop a xs)
stretch_within a k size xs ys h l =
    sym (drop-take a k (take size (xs ++ ys)))
    ∙ ap (drop a) (take-take (a + k) size (xs ++ ys) h ∙ take-append-le (a + k) xs ys l)
    ∙ drop-take a k xs

-- zeros behind bytes are zeros behind their bits
pub bits_of_bytes-replicate : (n : ℕ) → bits_of_bytes (replicate n 0) ≡ replicate (8 * n) 0
bits_of_bytes-replicate zero = bits_of_bytes-nil
bits_of_bytes-replicate (suc n) =
    bits_of_bytes-cons 0 (replicate n 0)
    ∙ ap₂ (λ (x y : List ℕ). x ++ y) (bits_of-zero 8) (bits_of_bytes-replicate n)
    ∙ replicate-append-replicate 8 (8 * n) 0
    ∙ ap (λ k. replicate k 0) (sym (eight_more n))
