-- Items below zero get ones above their first bit, four items at once.
use Rattle.std.proofs.Common.{◌≡◌, ℕ, zero, suc, ◌+◌, ◌-◌, ◌*◌, ◌/◌, ◌%◌, ◌^◌, ◌<◌, ◌≤◌, pos, negsuc, ◌-ℤ◌, List, ◌++◌, drop, sym, ap, ap₂, ◌∙◌, subst, bit_and, append_assoc, append-nil, mod-eq_of_lt, arith}
use Rattle.std.proofs.lemmas.Int.{ints}
use Rattle.std.proofs.lemmas.Nat.{shr_split, shr_below, mod_below, pow_pos, one_shl, pow-add}
use Rattle.std.proofs.lemmas.List.{take_at, drop_at}
use Rattle.std.proofs.Math.Nat.{pow-le-pow_right, pow-suc}
use Rattle.sample_unpack.specs.Bits.{bits_of, signed_number_of, signed_bits_of}
use Rattle.sample_unpack.specs.Lanes.{four}
use Rattle.sample_unpack.specs.Samples.{sample_of, sample_at, samples_from, bits_of_sample, bits_of_samples}
use Rattle.sample_unpack.proofs.Bits.{length-bits_of, bits_of-add, bits_of-mod, bits_of_joined}
use Rattle.sample_unpack.proofs.Items.{high_item, sample_of_items}
use Rattle.sample_unpack.proofs.Samples.{sample_of-take}
use Rattle.sample_unpack.proofs.Signed.{signed_number_of-bits_of}
use Rattle.sample_unpack.proofs.Spread.{one_bit, four_and, four_times, four_plus, four_below}

-- ---- one item

-- an item of `width` bits with the ones above it
abbrev pub extended : ℕ → ℕ → ℕ
extended width v = v + v / 2 ^ (width - 1) % 2 * (2 ^ 16 - 2 ^ width)

-- the first bit and the rest
by_first : (t u r : ℕ) → t < 2 → r < 2 ^ u → u < 16 → bits_of 16 (t * 2 ^ u + r + t * (2 ^ 16 - 2 ^ suc u)) ≡ signed_bits_of 16 (pos r -ℤ pos (t * 2 ^ u))
unfolding signed_bits_of
by_first zero u r h l m =
    let value : pos r -ℤ pos (0 * 2 ^ u) ≡ pos r = omega (arith, ints) in
    let same : 0 * 2 ^ u + r + 0 * (2 ^ 16 - 2 ^ suc u) ≡ r = omega arith in
    ap (bits_of 16) same ∙ sym (ap (signed_bits_of 16) value)
by_first (suc zero) u r h l m =
    let value : pos r -ℤ pos (1 * 2 ^ u) ≡ negsuc (2 ^ u - suc r) = omega (arith, ints) in
    let most : 2 ^ suc u ≤ 2 ^ 16 = pow-le-pow_right {n = 2} (omega arith) {i = suc u} {j = 16} (omega arith) in
    let same : 1 * 2 ^ u + r + 1 * (2 ^ 16 - 2 ^ suc u) ≡ 2 ^ 16 - suc (2 ^ u - suc r) = omega (arith, pow-suc 2 u) in
    ap (bits_of 16) same ∙ sym (ap (signed_bits_of 16) value)
by_first (suc (suc t)) u r h l m = absurd (omega arith)

sign_worth : (t p g s : ℕ) → p * g ≡ 2 ^ 16 → 2 ≤ g → s ≡ 2 * p → t * p * (g - 2) ≡ t * (2 ^ 16 - s)
sign_worth t p g s e l two =
    let more : g - 2 + 2 ≡ g = omega arith in
    let whole : p * (g - 2 + 2) ≡ 2 ^ 16 = ap (λ n. p * n) more ∙ e in
    let one : p * (g - 2) ≡ 2 ^ 16 - s = omega arith in
    let turned : t * p * (g - 2) ≡ t * (p * (g - 2)) = omega arith in
    turned ∙ ap (λ n. t * n) one

sign_most : (t n : ℕ) → t < 2 → t * n ≤ n
sign_most zero n h = omega arith
sign_most (suc zero) n h = omega arith
sign_most (suc (suc t)) n h = absurd (omega arith)

-- what the code adds to an item, and what comes of it
pub record Extends (width v : ℕ) : Type 0 where
  pub worth : bit_and v (2 ^ (width - 1)) * (1 * 2 ^ (17 - width) % 2 ^ 64 - 2) ≡ v / 2 ^ (width - 1) % 2 * (2 ^ 16 - 2 ^ width)
  pub fits : extended width v < 2 ^ 16
  pub spelled : bits_of 16 (extended width v) ≡ signed_bits_of 16 (signed_number_of (bits_of width v))

extends_suc : (u v : ℕ) → u < 16 → v < 2 ^ suc u → Extends (suc u) v
extends_suc u v m h =
    let place : suc u - 1 ≡ u = omega arith in
    let gap : 17 - suc u ≡ 16 - u = omega arith in
    let t = v / 2 ^ u % 2 in
    let top : v / 2 ^ u < 2 = shr_below v 1 u (subst (λ e. v < 2 ^ e) (omega arith) h) in
    let whole : u + (16 - u) ≡ 16 = omega arith in
    let all : 2 ^ u * 2 ^ (16 - u) ≡ 2 ^ 16 = sym (pow-add 2 u (16 - u)) ∙ ap (λ e. 2 ^ e) whole in
    let same : t ≡ v / 2 ^ u = mod-eq_of_lt top in
    let rest = mod_below v (2 ^ u) (pow_pos u) in
    let split = shr_split v u in
    let most : 2 ^ suc u ≤ 2 ^ 16 = pow-le-pow_right {n = 2} (omega arith) {i = suc u} {j = 16} (omega arith) in
    let double : 2 ^ suc u ≡ 2 * 2 ^ u = omega (arith, pow-suc 2 u) in
    let two : 2 ≤ 2 ^ (16 - u) = pow-le-pow_right {n = 2} (omega arith) {i = 1} {j = 16 - u} (omega arith) in
    let worth : bit_and v (2 ^ u) * (1 * 2 ^ (16 - u) % 2 ^ 64 - 2) ≡ t * (2 ^ 16 - 2 ^ suc u) =
    ap₂ (λ (a b : ℕ). a * (b - 2)) (one_bit u v) (one_shl (16 - u) 64 (omega arith)) ∙ sign_worth t (2 ^ u) (2 ^ (16 - u)) (2 ^ suc u) all two double in
    let fits : v + t * (2 ^ 16 - 2 ^ suc u) < 2 ^ 16 = omega (arith, sign_most t (2 ^ 16 - 2 ^ suc u) (omega arith)) in
    let spelled : bits_of 16 (v + t * (2 ^ 16 - 2 ^ suc u)) ≡ signed_bits_of 16 (signed_number_of (bits_of (suc u) v)) =
    ap₂ (λ (a b : ℕ). bits_of 16 (a + b * (2 ^ 16 - 2 ^ suc u))) (sym split) same
    ∙ by_first (v / 2 ^ u) u (v % 2 ^ u) top rest m
    ∙ ap (λ b. signed_bits_of 16 (pos (v % 2 ^ u) -ℤ pos (b * 2 ^ u))) (sym same)
    ∙ ap (signed_bits_of 16) (sym (signed_number_of-bits_of u v)) in
    record {
      worth = rw (place, gap) worth;
      fits = rw place fits;
      spelled = rw place spelled;
    }

pub extends : (width v : ℕ) → 1 ≤ width → width ≤ 16 → v < 2 ^ width → Extends width v
extends width v some most h =
    let e : suc (width - 1) ≡ width = omega arith in
    subst (λ w. Extends w v) e (extends_suc (width - 1) v (omega arith) (subst (λ w. v < 2 ^ w) (sym e) h))

-- ---- four items

pub bits_of_four : (a b c d : ℕ) → b < 2 ^ 16 → c < 2 ^ 16 → d < 2 ^ 16 → bits_of 64 (four a b c d) ≡ (bits_of 16 a ++ bits_of 16 b) ++ (bits_of 16 c ++ bits_of 16 d)
bits_of_four a b c d hb hc hd =
    bits_of_joined 48 16 ((a * 2 ^ 16 + b) * 2 ^ 16 + c) d hd
    ∙ ap (λ xs. xs ++ bits_of 16 d) (bits_of_joined 32 16 (a * 2 ^ 16 + b) c hc ∙ ap (λ xs. xs ++ bits_of 16 c) (bits_of_joined 16 16 a b hb))
    ∙ append_assoc (bits_of 16 a ++ bits_of 16 b) (bits_of 16 c) (bits_of 16 d)

-- the two samples of four items
pub record TwoSamples (w items : ℕ) : Type 0 where
  pub first : sample_at w (bits_of (4 * w) items) 0 ≡ sample_of w (bits_of (2 * w) (items / 2 ^ (2 * w)))
  pub second : sample_at w (bits_of (4 * w) items) 1 ≡ sample_of w (bits_of (2 * w) (items % 2 ^ (2 * w)))

pub two_samples : (w items : ℕ) → TwoSamples w items
two_samples w items =
    let twice : 4 * w ≡ 2 * w + 2 * w = omega arith in
    let none : 2 * w * 0 ≡ 0 = omega arith in
    let one : 2 * w * 1 ≡ 2 * w = omega arith in
    let high = bits_of (2 * w) (items / 2 ^ (2 * w)) in
    let low = bits_of (2 * w) (items % 2 ^ (2 * w)) in
    let size = length-bits_of (2 * w) (items / 2 ^ (2 * w)) in
    let split : bits_of (4 * w) items ≡ high ++ low =
    ap (λ n. bits_of n items) twice ∙ bits_of-add (2 * w) (2 * w) items ∙ ap (λ xs. high ++ xs) (sym (bits_of-mod (2 * w) items)) in
    record {
      first =
          ap₂ (λ (n : ℕ) (xs : List ℕ). sample_of w (drop n xs)) none split
          ∙ sym (sample_of-take w (high ++ low))
          ∙ ap (sample_of w) (take_at high low (2 * w) size);
      second =
          ap₂ (λ (n : ℕ) (xs : List ℕ). sample_of w (drop n xs)) one split
          ∙ ap (sample_of w) (drop_at high low (2 * w) size);
    }

-- a sample of two items as items of 16 bits
pub sample_extended : (w pair : ℕ) → 1 ≤ w → w ≤ 16 → pair < 2 ^ (2 * w)
    → bits_of 16 (extended w (pair / 2 ^ w)) ++ bits_of 16 (extended w (pair % 2 ^ w)) ≡ bits_of_sample 16 (sample_of w (bits_of (2 * w) pair))
sample_extended w pair some most h =
    let i = extends w (pair / 2 ^ w) some most (high_item w pair h) in
    let q = extends w (pair % 2 ^ w) some most (mod_below pair (2 ^ w) (pow_pos w)) in
    ap₂ (λ (xs ys : List ℕ). xs ++ ys) i.spelled q.spelled ∙ sym (ap (bits_of_sample 16) (sample_of_items w pair))

-- what the code makes of four items that stand apart
pub record Widens (w items apart : ℕ) : Type 0 where
  pub fits : apart + bit_and apart (281479271743489 * 2 ^ (w - 1) % 2 ^ 64) * (1 * 2 ^ (17 - w) % 2 ^ 64 - 2) < 2 ^ 64
  pub spelled : bits_of 64 (apart + bit_and apart (281479271743489 * 2 ^ (w - 1) % 2 ^ 64) * (1 * 2 ^ (17 - w) % 2 ^ 64 - 2)) ≡ bits_of_samples 16 (samples_from w (bits_of (4 * w) items) 0 2)

pub widens : (w items apart high low : ℕ) → 1 ≤ w → w ≤ 16 → items < 2 ^ (4 * w) → high ≡ items / 2 ^ (2 * w) → low ≡ items % 2 ^ (2 * w)
    → apart ≡ four (high / 2 ^ w) (high % 2 ^ w) (low / 2 ^ w) (low % 2 ^ w) → Widens w items apart
widens w items apart high low some most fits eh el e =
    let twice : 4 * w ≡ 2 * w + 2 * w = omega arith in
    let h : high < 2 ^ (2 * w) = subst (λ n. n < 2 ^ (2 * w)) (sym eh) (shr_below items (2 * w) (2 * w) (subst (λ n. items < 2 ^ n) twice fits)) in
    let l : low < 2 ^ (2 * w) = subst (λ n. n < 2 ^ (2 * w)) (sym el) (mod_below items (2 ^ (2 * w)) (pow_pos (2 * w))) in
    let all : 2 ^ w ≤ 2 ^ 16 = pow-le-pow_right {n = 2} (omega arith) {i = w} {j = 16} most in
    let top : 2 ^ (w - 1) ≤ 2 ^ 15 = pow-le-pow_right {n = 2} (omega arith) {i = w - 1} {j = 15} (omega arith) in
    let a = high / 2 ^ w in
    let b = high % 2 ^ w in
    let c = low / 2 ^ w in
    let d = low % 2 ^ w in
    let ha : a < 2 ^ w = high_item w high h in
    let hb : b < 2 ^ w = mod_below high (2 ^ w) (pow_pos w) in
    let hc : c < 2 ^ w = high_item w low l in
    let hd : d < 2 ^ w = mod_below low (2 ^ w) (pow_pos w) in
    let xa = extends w a some most ha in
    let xb = extends w b some most hb in
    let xc = extends w c some most hc in
    let xd = extends w d some most hd in
    let t = 2 ^ (w - 1) in
    let k = 1 * 2 ^ (17 - w) % 2 ^ 64 - 2 in
    let tops : 281479271743489 * t % 2 ^ 64 ≡ four t t t t =
    let small : 281479271743489 * t < 2 ^ 64 = omega arith in mod-eq_of_lt small ∙ omega arith in
    let signs : bit_and (four a b c d) (four t t t t) ≡ four (bit_and a t) (bit_and b t) (bit_and c t) (bit_and d t) =
    four_and a b c d t (omega arith) (omega arith) (omega arith) (omega arith) in
    let worth : four (bit_and a t) (bit_and b t) (bit_and c t) (bit_and d t) * k ≡ four (bit_and a t * k) (bit_and b t * k) (bit_and c t * k) (bit_and d t * k) =
    four_times (bit_and a t) (bit_and b t) (bit_and c t) (bit_and d t) k in
    let value : apart + bit_and apart (281479271743489 * t % 2 ^ 64) * k ≡ four (a + bit_and a t * k) (b + bit_and b t * k) (c + bit_and c t * k) (d + bit_and d t * k) =
    ap₂ (λ (m n : ℕ). m + bit_and m n * k) e tops
    ∙ ap (λ n. four a b c d + n * k) signs
    ∙ ap (λ n. four a b c d + n) worth
    ∙ four_plus a b c d (bit_and a t * k) (bit_and b t * k) (bit_and c t * k) (bit_and d t * k) in
    let ea : a + bit_and a t * k ≡ extended w a = ap (λ n. a + n) xa.worth in
    let eb : b + bit_and b t * k ≡ extended w b = ap (λ n. b + n) xb.worth in
    let ec : c + bit_and c t * k ≡ extended w c = ap (λ n. c + n) xc.worth in
    let ed : d + bit_and d t * k ≡ extended w d = ap (λ n. d + n) xd.worth in
    let made : apart + bit_and apart (281479271743489 * t % 2 ^ 64) * k ≡ four (extended w a) (extended w b) (extended w c) (extended w d) =
    value
    ∙ ap₂ (λ (m n : ℕ). four m n (c + bit_and c t * k) (d + bit_and d t * k)) ea eb
    ∙ ap₂ (λ (m n : ℕ). four (extended w a) (extended w b) m n) ec ed in
    let two = two_samples w items in
    record {
      fits = subst (λ n. n < 2 ^ 64) (sym made) (four_below (extended w a) (extended w b) (extended w c) (extended w d) xa.fits xb.fits xc.fits xd.fits);
      spelled =
          ap (bits_of 64) made
          ∙ bits_of_four (extended w a) (extended w b) (extended w c) (extended w d) xb.fits xc.fits xd.fits
          ∙ ap₂ (λ (xs ys : List ℕ). xs ++ ys)
          (sample_extended w high some most h ∙ ap (λ n. bits_of_sample 16 (sample_of w (bits_of (2 * w) n))) eh ∙ ap (bits_of_sample 16) (sym two.first))
          (sample_extended w low some most l ∙ ap (λ n. bits_of_sample 16 (sample_of w (bits_of (2 * w) n))) el ∙ ap (bits_of_sample 16) (sym two.second)
          ∙ sym (append-nil (bits_of_sample 16 (sample_at w (bits_of (4 * w) items) 1))));
    }
