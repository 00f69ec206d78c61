-- What the code computes of items: shifts, masks and a window of eight bytes.
use Rattle.std.proofs.Common.{◌≡◌, ℕ, zero, suc, ◌+◌, ◌-◌, ◌*◌, ◌/◌, ◌%◌, ◌^◌, ◌<◌, ◌≤◌, ℤ, pos, ◌-ℤ◌, List, [], ◌∷◌, ◌++◌, length, take, drop, replicate, get_or, sym, ap, ap₂, ◌∙◌, subst, bit_and, bit_xor, shr-shr, lit<, add-sub_of_le, arith}
use Rattle.std.proofs.lemmas.Nat.{shr_below, and_mask, one_shl, pow_below, xor_lt, shl-shr, field_of}
use Rattle.std.proofs.lemmas.Nat.Bits.{ones_shr}
use Rattle.std.proofs.Math.Nat.{pow-le-pow_right, pow-suc}
use Rattle.std.proofs.lemmas.List.{take_at, take_all, drop_at, drop-drop, length-append, length-drop, take-append-le, get_or-drop, drop-replicate, take-replicate}
use Rattle.std.proofs.Math.Seq.{take-append-add}
use Rattle.byteorder.specs.Numbers.{big_from-take}
use Rattle.byteorder.specs.Endian.{big_from}
use Rattle.sample_unpack.specs.Bits.{bits_of, bits_of_bytes, signed_number_of}
use Rattle.sample_unpack.specs.Samples.{sample_of}
use Rattle.sample_unpack.proofs.Bits.{length-bits_of, length-bits_of_bytes, bits_of-add, bits_of-mod, bits_of_read, bits_of_bytes-append, bits_of_bytes-replicate, drop-bits_of_bytes, take-bits_of_bytes, stretch_of, stretch_within}
use Rattle.sample_unpack.proofs.Signed.{sign_by_xor}

pub low_mask : (w n : ℕ) → w ≤ 32 → bit_and n (4294967295 / 2 ^ (32 - w)) ≡ n % 2 ^ w
low_mask w n h =
    ap (bit_and n) (ones_shr 32 (32 - w) (omega arith) ∙ ap (λ e. 2 ^ e - 1) (omega arith)) ∙ and_mask n w

-- how the code reads an item of `width` bits, of which `low` stand behind the first, as a signed number
pub record Signs (low width item : ℕ) : Type 0 where
  pub top : 1 * 2 ^ low % 4294967296 ≡ 2 ^ low
  pub small : 2 ^ low ≤ 2 ^ 15
  pub turned : bit_xor item (1 * 2 ^ low % 4294967296) < 2 * 2 ^ low
  pub value : pos (bit_xor item (1 * 2 ^ low % 4294967296)) -ℤ pos (1 * 2 ^ low % 4294967296) ≡ signed_number_of (bits_of width item)

signs_of : (w item : ℕ) → w < 16 → item < 2 ^ suc w → Signs w (suc w) item
signs_of w item most fits =
    let top : 1 * 2 ^ w % 4294967296 ≡ 2 ^ w = one_shl w 32 (omega arith) in
    let turned : bit_xor item (2 ^ w) < 2 * 2 ^ w = omega (arith, pow-suc 2 w, xor_lt (suc w) item (2 ^ w) fits (pow_below w (suc w) (omega arith))) in
    record {
      top = top;
      small = pow-le-pow_right (omega arith) {i = w} {j = 15} (omega arith);
      turned = rw top turned;
      value = rw top (sign_by_xor w item fits);
    }

pub signs : (low width item : ℕ) → suc low ≡ width → width ≤ 16 → item < 2 ^ width → Signs low width item
signs low width item e most fits =
    subst (λ w. Signs low w item) e (signs_of low item (omega arith) (subst (λ w. item < 2 ^ w) (sym e) fits))

-- a number of two items as its halves
pub double_is : (w : ℕ) → 2 * w ≡ w + w
double_is w = omega arith

pub high_item : (w items : ℕ) → items < 2 ^ (2 * w) → items / 2 ^ w < 2 ^ w
high_item w items h = shr_below items w w (subst (λ e. items < 2 ^ e) (double_is w) h)

halves : (w items : ℕ) → bits_of (2 * w) items ≡ bits_of w (items / 2 ^ w) ++ bits_of w items
halves w items = ap (λ n. bits_of n items) (double_is w) ∙ bits_of-add w w items

-- what a sample's two items spell, as one number
pub sample_of_items : (w items : ℕ) → sample_of w (bits_of (2 * w) items) ≡ record { i = signed_number_of (bits_of w (items / 2 ^ w)); q = signed_number_of (bits_of w (items % 2 ^ w)) }
sample_of_items w items =
    let high = length-bits_of w (items / 2 ^ w) in
    let front : take w (bits_of (2 * w) items) ≡ bits_of w (items / 2 ^ w) =
    ap (take w) (halves w items) ∙ take_at (bits_of w (items / 2 ^ w)) (bits_of w items) w high in
    let back : take w (drop w (bits_of (2 * w) items)) ≡ bits_of w (items % 2 ^ w) =
    ap (λ bs. take w (drop w bs)) (halves w items)
    ∙ ap (take w) (drop_at (bits_of w (items / 2 ^ w)) (bits_of w items) w high)
    ∙ take_all w (bits_of w items) (omega (arith, length-bits_of w items))
    ∙ sym (bits_of-mod w items) in
    ap₂ (λ (x y : ℤ). record { i = x; q = y }) (ap signed_number_of front) (ap signed_number_of back)

-- ---- the window

-- a window of eight bytes, read where they are all there
pub window_of_read : (payload : List ℕ) (at number : ℕ) → ((k : ℕ) → get_or payload k 0 < 256) → at + 8 ≤ length payload → number ≡ big_from 0 8 (drop at payload) → bits_of 64 number ≡ take 64 (drop (8 * at) (bits_of_bytes payload) ++ replicate 64 0)
window_of_read payload at number h l e =
    let there : 64 ≤ length (drop (8 * at) (bits_of_bytes payload)) = omega (arith, length-drop (8 * at) (bits_of_bytes payload), length-bits_of_bytes payload) in
    ap (bits_of 64) e
    ∙ bits_of_read 8 0 (drop at payload) (λ k. rw (get_or-drop at payload k 0) (h (at + k))) (omega (arith, length-drop at payload))
    ∙ take-bits_of_bytes 8 (drop at payload)
    ∙ ap (take 64) (drop-bits_of_bytes at payload)
    ∙ sym (take-append-le 64 (drop (8 * at) (bits_of_bytes payload)) (replicate 64 0) there)

-- a buffer of zeros whose front was overwritten
pub padded : (n : ℕ) (rest : List ℕ) → length rest ≤ n → rest ++ drop (length rest) (replicate n 0) ≡ take n (rest ++ replicate n 0)
padded n rest l =
    ap (λ bs. rest ++ bs) (drop-replicate (length rest) n 0 ∙ sym (take-replicate (n - length rest) n 0 (omega arith)))
    ∙ sym (take-append-add rest (replicate n 0) (n - length rest))
    ∙ ap (λ k. take k (rest ++ replicate n 0)) (add-sub_of_le l)

zeros_below : (n k : ℕ) → get_or (replicate n 0) k 0 < 256
zeros_below zero k = lit< tt
zeros_below (suc n) zero = lit< tt
zeros_below (suc n) (suc k) = zeros_below n k

padded_below : (n : ℕ) (rest : List ℕ) → ((k : ℕ) → get_or rest k 0 < 256) → (k : ℕ) → get_or (rest ++ replicate n 0) k 0 < 256
padded_below n [] h k = zeros_below n k
padded_below n (x ∷ rest) h zero = h 0
padded_below n (x ∷ rest) h (suc k) = padded_below n rest (λ j. h (suc j)) k

-- a window at the end of a payload, with zeros behind it
pub window_of_last : (rest : List ℕ) (number : ℕ) → ((k : ℕ) → get_or rest k 0 < 256) → length rest ≤ 8 → number ≡ big_from 0 8 (rest ++ drop (length rest) (replicate 8 0)) → bits_of 64 number ≡ take 64 (bits_of_bytes rest ++ replicate 64 0)
window_of_last rest number h l e =
    ap (bits_of 64) (e ∙ ap (big_from 0 8) (padded 8 rest l) ∙ big_from-take 0 8 8 (rest ++ replicate 8 0) (omega arith))
    ∙ bits_of_read 8 0 (rest ++ replicate 8 0) (padded_below 8 rest h) (omega (arith, length-append rest (replicate 8 0)))
    ∙ take-bits_of_bytes 8 (rest ++ replicate 8 0)
    ∙ ap (take 64) (bits_of_bytes-append rest (replicate 8 0) ∙ ap (λ bs. bits_of_bytes rest ++ bs) (bits_of_bytes-replicate 8))

-- a part of a window: shifted up past what stands before it, and down to its end
pub shifted : (number offset size high low : ℕ) → high ≡ offset + low → size + high ≡ 64 → number * 2 ^ offset % 2 ^ 64 / 2 ^ high ≡ number / 2 ^ low % 2 ^ size
shifted number offset size high low e f =
    ap (λ w. number * 2 ^ offset % 2 ^ w / 2 ^ high) (sym f)
    ∙ field_of (number * 2 ^ offset) size high
    ∙ ap (λ w. number * 2 ^ offset / 2 ^ w % 2 ^ size) e
    ∙ ap (λ n. n % 2 ^ size) (sym (shr-shr (number * 2 ^ offset) offset low))
    ∙ ap (λ n. n / 2 ^ low % 2 ^ size) (shl-shr number offset)

-- a stretch of a window's bits, as the code cuts it out
pub stretch_in : (number offset size low : ℕ) → offset + size + low ≡ 64 → bits_of size (number / 2 ^ low % 2 ^ size) ≡ take size (drop offset (bits_of 64 number))
stretch_in number offset size low e =
    bits_of-mod size (number / 2 ^ low)
    ∙ sym (stretch_of offset size low number)
    ∙ ap (λ n. take size (drop offset (bits_of n number))) e

-- a stretch of a window that begins at bit `start` of the payload
pub window_stretch : (bits : List ℕ) (number start offset size : ℕ) → offset + size ≤ 64 → start + offset + size ≤ length bits → bits_of 64 number ≡ take 64 (drop start bits ++ replicate 64 0) → take size (drop offset (bits_of 64 number)) ≡ take size (drop (start + offset) bits)
window_stretch bits number start offset size h l w =
    ap (λ bs. take size (drop offset bs)) w
    ∙ stretch_within offset size 64 (drop start bits) (replicate 64 0) h (omega (arith, length-drop start bits))
    ∙ ap (take size) (drop-drop offset start bits)
