-- Samples read one after another.
use Rattle.std.proofs.Common.{◌≡◌, ℕ, zero, suc, min, ◌+◌, ◌-◌, ◌*◌, ◌/◌, ◌%◌, ◌<◌, ◌≤◌, ℤ, pos, ◌-ℤ◌, to_z, List, [], ◌∷◌, ◌++◌, length, take, drop, replicate, set, get_or, refl, sym, ap, ap₂, ◌∙◌, append_assoc, append-nil, add-zero, zero-add, suc-add, arith}
use Rattle.std.specs.Int.{w8}
use Rattle.std.proofs.lemmas.Int.{ints}
use Rattle.std.proofs.lemmas.List.{take-take, drop-take, drop-drop, drop_all, take_rest, take_at, drop_at, take_more_set, length-drop, length-set, get_or-drop}
use Rattle.std.proofs.lemmas.List.FromFn.{map-range_with_len_more}
use borrow.Rule.Slice.PartMut.{put_mid}
use Rattle.byteorder.specs.Endian.{big_from}
use Rattle.sample_unpack.specs.Bits.{bits_of, bits_of_bytes, signed_number_of}
use Rattle.sample_unpack.specs.Samples.{sample_of, sample_at, samples_from}
use Rattle.sample_unpack.specs.declared.sample.Sample.{Sample}
use Rattle.sample_unpack.proofs.Bits.{length-bits_of, bits_of_bytes-cons, bits_of_read, drop-bits_of_bytes, take-bits_of_bytes}
use Rattle.sample_unpack.proofs.Items.{double_is, window_stretch}
use Rattle.sample_unpack.proofs.Signed.{signed_number_of-bits_of}

-- a sample reads the bits of its two items alone
pub sample_of-take : (w : ℕ) (bits : List ℕ) → sample_of w (take (2 * w) bits) ≡ sample_of w bits
sample_of-take w bits =
    let first : take w (take (2 * w) bits) ≡ take w bits = take-take w (2 * w) bits (omega arith) in
    let second : take w (drop w (take (2 * w) bits)) ≡ take w (drop w bits) =
    ap (λ n. take w (drop w (take n bits))) (double_is w) ∙ ap (take w) (drop-take w w bits) ∙ take-take w w (drop w bits) (omega arith) in
    let sample : ℤ → ℤ → Sample = λ i q. record { i = i; q = q } in
    ap₂ sample (ap signed_number_of first) (ap signed_number_of second)

-- two samples read the bits of their four items alone
pub two_samples-take : (w : ℕ) (bits : List ℕ) → samples_from w (take (4 * w) bits) 0 2 ≡ samples_from w bits 0 2
two_samples-take w bits =
    let twice : 4 * w ≡ 2 * w + 2 * w = omega arith in
    let none : 2 * w * 0 ≡ 0 = omega arith in
    let one : 2 * w * 1 ≡ 2 * w = omega arith in
    let first : sample_at w (take (4 * w) bits) 0 ≡ sample_at w bits 0 =
    ap (λ n. sample_of w (drop n (take (4 * w) bits))) none
    ∙ sym (sample_of-take w (take (4 * w) bits))
    ∙ ap (sample_of w) (take-take (2 * w) (4 * w) bits (omega arith))
    ∙ sample_of-take w bits
    ∙ ap (λ n. sample_of w (drop n bits)) (sym none) in
    let second : sample_at w (take (4 * w) bits) 1 ≡ sample_at w bits 1 =
    ap₂ (λ (n m : ℕ). sample_of w (drop n (take m bits))) one twice
    ∙ ap (sample_of w) (drop-take (2 * w) (2 * w) bits)
    ∙ sample_of-take w (drop (2 * w) bits)
    ∙ ap (λ n. sample_of w (drop n bits)) (sym one) in
    ap₂ (λ (a b : Sample). a ∷ b ∷ []) first second

-- a sample whose two items are whole bytes
pub sample_in_bytes : (w n at : ℕ) (payload : List ℕ) → 2 * w ≡ 8 * n → ((k : ℕ) → get_or payload k 0 < 256) → at + n ≤ length payload → sample_of w (bits_of (2 * w) (big_from 0 n (drop at payload))) ≡ sample_of w (drop (8 * at) (bits_of_bytes payload))
sample_in_bytes w n at payload e h l =
    ap (sample_of w)
    (ap (λ k. bits_of k (big_from 0 n (drop at payload))) e
    ∙ bits_of_read n 0 (drop at payload) (λ k. rw (get_or-drop at payload k 0) (h (at + k))) (omega (arith, length-drop at payload))
    ∙ take-bits_of_bytes n (drop at payload)
    ∙ ap₂ (λ (k : ℕ) (bs : List ℕ). take k bs) (sym e) (drop-bits_of_bytes at payload))
    ∙ sample_of-take w (drop (8 * at) (bits_of_bytes payload))

-- a sample that is read through a window
pub sample_in_window : (w : ℕ) (bits : List ℕ) (window items start offset place : ℕ) → offset + 2 * w ≤ 64 → start + offset + 2 * w ≤ length bits → start + offset ≡ place → bits_of 64 window ≡ take 64 (drop start bits ++ replicate 64 0) → bits_of (2 * w) items ≡ take (2 * w) (drop offset (bits_of 64 window)) → sample_of w (bits_of (2 * w) items) ≡ sample_of w (drop place bits)
sample_in_window w bits window items start offset place h l p read cut =
    ap (sample_of w) (cut ∙ window_stretch bits window start offset (2 * w) h l read)
    ∙ sample_of-take w (drop (start + offset) bits)
    ∙ ap (λ n. sample_of w (drop n bits)) p

-- a byte as a signed number
pub signed_byte : (b : ℕ) → b < 256 → to_z w8 b ≡ signed_number_of (bits_of 8 b)
signed_byte b h =
    let value : to_z w8 b ≡ pos (b % 128) -ℤ pos (b / 128 % 2 * 128) = grind (arith, ints) in
    value ∙ sym (signed_number_of-bits_of 7 b)

-- a sample whose items are bytes
pub sample_of_two : (a b : ℕ) (bytes : List ℕ) → a < 256 → b < 256 → record { i = to_z w8 a; q = to_z w8 b } ≡ sample_of 8 (bits_of_bytes (a ∷ b ∷ bytes))
sample_of_two a b bytes h l =
    let behind = bits_of 8 b ++ bits_of_bytes bytes in
    let split : bits_of_bytes (a ∷ b ∷ bytes) ≡ bits_of 8 a ++ behind =
    bits_of_bytes-cons a (b ∷ bytes) ∙ ap (λ bs. bits_of 8 a ++ bs) (bits_of_bytes-cons b bytes) in
    let first : bits_of 8 a ≡ take 8 (bits_of_bytes (a ∷ b ∷ bytes)) =
    sym (ap (take 8) split ∙ take_at (bits_of 8 a) behind 8 (length-bits_of 8 a)) in
    let second : bits_of 8 b ≡ take 8 (drop 8 (bits_of_bytes (a ∷ b ∷ bytes))) =
    sym (ap (λ bs. take 8 (drop 8 bs)) split
    ∙ ap (take 8) (drop_at (bits_of 8 a) behind 8 (length-bits_of 8 a))
    ∙ take_at (bits_of 8 b) (bits_of_bytes bytes) 8 (length-bits_of 8 b)) in
    let made : ℤ → ℤ → Sample = λ i q. record { i = i; q = q } in
    ap₂ made (signed_byte a h ∙ ap signed_number_of first) (signed_byte b l ∙ ap signed_number_of second)

-- ---- several samples

-- a sample behind a place
pub sample_behind : (w : ℕ) (bits : List ℕ) (start number place : ℕ) → place ≡ start + 2 * w * number → sample_of w (drop place bits) ≡ sample_at w (drop start bits) number
sample_behind w bits start number place e =
    ap (λ n. sample_of w (drop n bits)) e ∙ ap (sample_of w) (sym (drop-drop (2 * w * number) start bits))

-- some samples, and then more
pub samples_from-add : (w : ℕ) (bits : List ℕ) (first a b : ℕ) → samples_from w bits first (a + b) ≡ samples_from w bits first a ++ samples_from w bits (first + a) b
samples_from-add w bits first zero b =
    ap₂ (samples_from w bits) (sym (add-zero first)) (zero-add b)
samples_from-add w bits first (suc a) b =
    let next : first + 1 + a ≡ first + suc a = omega arith in
    ap (samples_from w bits first) (suc-add a b)
    ∙ ap (λ ss. sample_at w bits first ∷ ss) (samples_from-add w bits (first + 1) a b ∙ ap (λ n. samples_from w bits (first + 1) a ++ samples_from w bits n b) next)

-- samples behind some
pub samples_from-drop : (w : ℕ) (bits : List ℕ) (before first count : ℕ) → samples_from w (drop (2 * w * before) bits) first count ≡ samples_from w bits (before + first) count
samples_from-drop w bits before first zero = refl
samples_from-drop w bits before first (suc count) =
    let place : 2 * w * (before + first) ≡ 2 * w * before + 2 * w * first = omega arith in
    let next : before + (first + 1) ≡ before + first + 1 = omega arith in
    ap₂ (λ (s : Sample) (ss : List Sample). s ∷ ss)
    (sym (sample_behind w bits (2 * w * before) first (2 * w * (before + first)) place))
    (samples_from-drop w bits before (first + 1) count ∙ ap (λ n. samples_from w bits n count) next)

-- samples from one place on, and behind them samples from the place where these end
pub samples_joined : (w : ℕ) (bits : List ℕ) (start place a b : ℕ) → (0 < b → place ≡ start + 2 * w * a) → samples_from w (drop start bits) 0 a ++ samples_from w (drop place bits) 0 b ≡ samples_from w (drop start bits) 0 (a + b)
samples_joined w bits start place a zero e =
    append-nil (samples_from w (drop start bits) 0 a) ∙ ap (samples_from w (drop start bits) 0) (sym (add-zero a))
samples_joined w bits start place a (suc b) e =
    let here = drop start bits in
    let same : drop place bits ≡ drop (2 * w * a) here = ap (λ n. drop n bits) (e (omega arith)) ∙ sym (drop-drop (2 * w * a) start bits) in
    let from : a + 0 ≡ 0 + a = omega arith in
    ap (λ ss. samples_from w here 0 a ++ ss)
    (ap (λ bs. samples_from w bs 0 (suc b)) same ∙ samples_from-drop w here a 0 (suc b) ∙ ap (λ n. samples_from w here n (suc b)) from)
    ∙ sym (samples_from-add w here 0 a (suc b))

-- four samples one after another
pub four_samples : (w : ℕ) (bits : List ℕ) (start : ℕ) (a b c d : Sample) → a ≡ sample_of w (drop (start + 0) bits) → b ≡ sample_of w (drop (start + 2 * w) bits) → c ≡ sample_of w (drop (start + 4 * w) bits) → d ≡ sample_of w (drop (start + 6 * w) bits) → (a ∷ b ∷ c ∷ d ∷ []) ≡ samples_from w (drop start bits) 0 4
four_samples w bits start a b c d p q r s =
    ap₂ (λ (x : Sample) (xs : List Sample). x ∷ xs) (p ∙ sample_behind w bits start 0 (start + 0) (omega arith))
    (ap₂ (λ (x : Sample) (xs : List Sample). x ∷ xs) (q ∙ sample_behind w bits start 1 (start + 2 * w) (omega arith))
    (ap₂ (λ (x : Sample) (xs : List Sample). x ∷ xs) (r ∙ sample_behind w bits start 2 (start + 4 * w) (omega arith))
    (ap (λ (x : Sample). x ∷ []) (s ∙ sample_behind w bits start 3 (start + 6 * w) (omega arith)))))

-- the items of a list of four
pub four_items : (xs : List Sample) (d : Sample) → length xs ≡ 4 → (get_or xs 0 d ∷ get_or xs 1 d ∷ get_or xs 2 d ∷ get_or xs 3 d ∷ []) ≡ xs
four_items [] d l = absurd (omega arith)
four_items (a ∷ []) d l = absurd (omega arith)
four_items (a ∷ b ∷ []) d l = absurd (omega arith)
four_items (a ∷ b ∷ c ∷ []) d l = absurd (omega arith)
four_items (a ∷ b ∷ c ∷ e ∷ []) d l = refl
four_items (a ∷ b ∷ c ∷ e ∷ f ∷ xs) d l = absurd (omega arith)

written_next : (into : List Sample) (index next : ℕ) (sample : Sample) → next ≡ index + 1 → index < length into → take next (set into index sample) ≡ take index into ++ sample ∷ []
written_next into index next sample e l = ap (λ n. take n (set into index sample)) e ∙ take_more_set into index sample l

-- four written samples
pub written_four : (into : List Sample) (index : ℕ) (a b c d : Sample) → index + 4 ≤ length into → take (index + 4) (set (set (set (set into index a) (index + 1) b) (index + 2) c) (index + 3) d) ≡ take index into ++ (a ∷ b ∷ c ∷ d ∷ [])
written_four into index a b c d l =
    let one = set into index a in
    let two = set one (index + 1) b in
    let three = set two (index + 2) c in
    let in_one : length one ≡ length into = length-set into index a in
    let in_two : length two ≡ length into = length-set one (index + 1) b ∙ in_one in
    let in_three : length three ≡ length into = length-set two (index + 2) c ∙ in_two in
    written_next three (index + 3) (index + 4) d (omega arith) (omega arith)
    ∙ ap (λ xs. xs ++ d ∷ []) (written_next two (index + 2) (index + 3) c (omega arith) (omega arith)
    ∙ ap (λ xs. xs ++ c ∷ []) (written_next one (index + 1) (index + 2) b (omega arith) (omega arith)
    ∙ ap (λ xs. xs ++ b ∷ []) (written_next into index (index + 1) a (omega arith) (omega arith))))
    ∙ simp append_assoc

-- ---- the parts in which the code reads

-- the end of a list is written over
pub written_rest : {A : Type 0} → (start : ℕ) (xs ys : List A) → start ≤ length xs → put_mid start (length xs - start) xs ys ≡ take start xs ++ ys
written_rest start xs ys l =
    ap (λ zs. take start xs ++ (ys ++ zs)) (drop_all (length xs - start) (drop start xs) (omega (arith, length-drop start xs)))
    ∙ ap (λ zs. take start xs ++ zs) (append-nil ys)

-- how many places the end of a list has
pub length_rest : {A : Type 0} → (start : ℕ) (xs : List A) → length (take (length xs - start) (drop start xs)) ≡ length xs - start
length_rest start xs = ap length (take_rest xs start) ∙ length-drop start xs

-- where the first four begin, if any sample is left for them
pub fours_begin : (w first count lead : ℕ) → lead ≡ min count ((4 - first % 4) % 4) → 0 < count - lead → 8 * ((first + 3) / 4 * w) ≡ 2 * w * first + 2 * w * lead
fours_begin w first count lead e l =
    let whole : 4 * ((first + 3) / 4) ≡ first + lead = omega arith in
    let sized : 2 * w * (4 * ((first + 3) / 4)) ≡ 2 * w * (first + lead) = ap (λ n. 2 * w * n) whole in
    omega arith

-- the samples from the first four on lie in the payload
pub fours_fit : (w first count lead place bytes : ℕ) → lead ≤ count → place ≡ 2 * w * first + 2 * w * lead → 2 * w * (first + count) ≤ 8 * bytes → place + 2 * w * (count - lead) ≤ 8 * bytes
fours_fit w first count lead place bytes m p l =
    let rest = count - lead in
    let all : lead + rest ≡ count = omega arith in
    let sized : 2 * w * (first + (lead + rest)) ≡ 2 * w * (first + count) = ap (λ n. 2 * w * (first + n)) all in
    omega arith

-- the samples in front of the first four, and those from there on
pub parts_joined : (w : ℕ) (bits : List ℕ) (first count lead start place : ℕ) (front back : List Sample) → start ≡ 2 * w * first → lead ≤ count → (0 < count - lead → place ≡ 2 * w * first + 2 * w * lead) → front ≡ samples_from w (drop start bits) 0 lead → back ≡ samples_from w (drop place bits) 0 (count - lead) → front ++ back ≡ samples_from w bits first count
parts_joined w bits first count lead start place front back s m p f b =
    let all : lead + (count - lead) ≡ count = omega arith in
    let none : first + 0 ≡ first = omega arith in
    ap₂ (λ (xs ys : List Sample). xs ++ ys) f b
    ∙ samples_joined w bits start place lead (count - lead) (λ l. p l ∙ ap (λ n. n + 2 * w * lead) (sym s))
    ∙ ap₂ (λ (n k : ℕ). samples_from w (drop n bits) 0 k) s all
    ∙ samples_from-drop w bits first 0 count
    ∙ ap (λ n. samples_from w bits n count) none

-- one more sample is written
pub samples_more : (w : ℕ) (bits : List ℕ) (first index : ℕ) (into : List Sample) (sample : Sample) → index < length into → take index into ≡ samples_from w bits first index → sample ≡ sample_at w bits (first + index) → take (index + 1) (set into index sample) ≡ samples_from w bits first (index + 1)
samples_more w bits first index into sample l e s =
    take_more_set into index sample l
    ∙ ap₂ (λ (xs : List Sample) (x : Sample). xs ++ x ∷ []) e s
    ∙ sym (map-range_with_len_more (sample_at w bits) first index (first + index) refl)
