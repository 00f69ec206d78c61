-- Laws of spelling: a prologue is spelled by one list of words.
use Rattle.std.proofs.Common.{◌≡◌, ◌<◌, ◌^◌, ◌==◌, ℕ, zero, suc, ◌/◌, ◌%◌, Bool, true, false, List, [], ◌∷◌, length, take, get_or, Option, Some, None, refl, sym, ap, ◌∙◌, arith}
use Rattle.vrt_words.specs.Words.{bits, AreWords}
use Rattle.vrt_time.specs.Time.{TimeStamp, fraction_of}
use Rattle.vrt_header.specs.Profile.{PacketProfile}
use Rattle.vrt_header.specs.Header.{IsTimed, IsHeader, prologue_words}
use Rattle.vrt_header.specs.Prologue.{IsStamped, IsPrologue}
use Rattle.vrt_header.specs.Spelling.{stamp_words}
use Rattle.vrt_header.specs.declared.header.Kind.{Kind}
use Rattle.vrt_header.specs.declared.header.Header.{Header}
use Rattle.vrt_header.specs.declared.prologue.Prologue.{Prologue}

four_items : (xs : List ℕ) → length xs ≡ 4 → xs ≡ get_or xs 0 0 ∷ get_or xs 1 0 ∷ get_or xs 2 0 ∷ get_or xs 3 0 ∷ []
four_items (a ∷ b ∷ c ∷ d ∷ []) h = refl
four_items xs h = absurd (omega arith)

seven_items : (xs : List ℕ) → length xs ≡ 7
    → xs ≡ get_or xs 0 0 ∷ get_or xs 1 0 ∷ get_or xs 2 0 ∷ get_or xs 3 0 ∷ get_or xs 4 0 ∷ get_or xs 5 0 ∷ get_or xs 6 0 ∷ []
seven_items (a ∷ b ∷ c ∷ d ∷ e ∷ f ∷ g ∷ []) h = refl
seven_items xs h = absurd (omega arith)

stamp_spelled : (timed : Bool) (stamp : Option TimeStamp) (words : List ℕ) → AreWords words → length words ≡ prologue_words timed → IsStamped timed stamp words
    → words ≡ take (prologue_words timed) (get_or words 0 0 ∷ get_or words 1 0 ∷ get_or words 2 0 ∷ get_or words 3 0 ∷ stamp_words stamp)
stamp_spelled true stamp words fits all s =
    let low = fits 6 in
    let high : fraction_of (get_or words 5 0) (get_or words 6 0) / 4294967296 ≡ get_or words 5 0 = omega arith in
    let rest : fraction_of (get_or words 5 0) (get_or words 6 0) % 4294967296 ≡ get_or words 6 0 = omega arith in
    rw (s.1, high, rest) (seven_items words all)
stamp_spelled false stamp words fits all s = four_items words all

pub spelled : (profile : PacketProfile) (p : Prologue) (words : List ℕ) (first class codes : ℕ) → AreWords words → IsPrologue profile p words
    → first ≡ get_or words 0 0 → class ≡ get_or words 2 0 → codes ≡ get_or words 3 0
    → words ≡ take (prologue_words p.header.timed) (first ∷ p.stream ∷ class ∷ codes ∷ stamp_words p.stamp)
spelled profile p words first class codes fits h e0 e2 e3 =
    stamp_spelled p.header.timed p.stamp words fits h.all h.stamp
    ∙ ap (λ (a : ℕ). take (prologue_words p.header.timed) (a ∷ get_or words 1 0 ∷ get_or words 2 0 ∷ get_or words 3 0 ∷ stamp_words p.stamp)) (sym e0)
    ∙ ap (λ (a : ℕ). take (prologue_words p.header.timed) (first ∷ a ∷ get_or words 2 0 ∷ get_or words 3 0 ∷ stamp_words p.stamp)) (sym h.stream)
    ∙ ap (λ (a : ℕ). take (prologue_words p.header.timed) (first ∷ p.stream ∷ a ∷ get_or words 3 0 ∷ stamp_words p.stamp)) (sym e2)
    ∙ ap (λ (a : ℕ). take (prologue_words p.header.timed) (first ∷ p.stream ∷ class ∷ a ∷ stamp_words p.stamp)) (sym e3)

pub stamp_items : (stamp : Option TimeStamp) (words : List ℕ) → words ≡ stamp_words stamp → get_or words 0 0 ∷ get_or words 1 0 ∷ get_or words 2 0 ∷ [] ≡ stamp_words stamp
stamp_items (Some stamp) words e = ap (λ (r : List ℕ). get_or r 0 0 ∷ get_or r 1 0 ∷ get_or r 2 0 ∷ []) e
stamp_items None words e = ap (λ (r : List ℕ). get_or r 0 0 ∷ get_or r 1 0 ∷ get_or r 2 0 ∷ []) e

pub same_bit : (a b : ℕ) → a < 2 → b < 2 → (a == 1) ≡ (b == 1) → a ≡ b
same_bit zero zero p q e = refl
same_bit (suc zero) (suc zero) p q e = refl
same_bit zero (suc zero) p q e = absurd (cc)
same_bit (suc zero) zero p q e = absurd (cc)
same_bit a b p q e = absurd (omega arith)

same_codes : (tsi : ℕ) (kind : Kind) (timed : Bool) (a b : ℕ) → IsTimed tsi kind timed a → IsTimed tsi kind timed b → bits a 20 4 ≡ bits b 20 4
same_codes tsi kind true a b p q = omega arith
same_codes tsi kind false a b p q = omega arith

-- a word is made of its fields
same_word : (a b : ℕ) → a < 2 ^ 32 → b < 2 ^ 32 → bits a 28 4 ≡ bits b 28 4 → bits a 27 1 ≡ bits b 27 1 → bits a 26 1 ≡ bits b 26 1 → bits a 25 1 ≡ bits b 25 1
    → bits a 24 1 ≡ bits b 24 1 → bits a 20 4 ≡ bits b 20 4 → bits a 16 4 ≡ bits b 16 4 → bits a 0 16 ≡ bits b 0 16 → a ≡ b
same_word a b p q e28 e27 e26 e25 e24 e20 e16 e0 = omega arith

pub one_header_word : (profile : PacketProfile) (h : Header) (a b : ℕ) → a < 2 ^ 32 → b < 2 ^ 32 → IsHeader profile h a → IsHeader profile h b → a ≡ b
one_header_word profile h a b p q s t =
    same_word a b p q (s.kind.packet_type ∙ sym t.kind.packet_type) (s.class_there ∙ sym t.class_there) (s.kind.acknowledge ∙ sym t.kind.acknowledge)
    (same_bit (bits a 25 1) (bits b 25 1) (omega arith) (omega arith) (sym s.bit25 ∙ t.bit25)) (same_bit (bits a 24 1) (bits b 24 1) (omega arith) (omega arith) (sym s.bit24 ∙ t.bit24))
    (same_codes profile.tsi h.kind h.timed a b s.time t.time) (sym s.count ∙ t.count) (sym s.size ∙ t.size)

one_class_word : (a b : ℕ) → a < 2 ^ 32 → b < 2 ^ 32 → bits a 27 5 ≡ bits b 27 5 → bits a 24 3 ≡ bits b 24 3 → bits a 0 24 ≡ bits b 0 24 → a ≡ b
one_class_word a b p q e f g = omega arith

one_codes_word : (a b : ℕ) → a < 2 ^ 32 → b < 2 ^ 32 → bits a 16 16 ≡ bits b 16 16 → bits a 0 16 ≡ bits b 0 16 → a ≡ b
one_codes_word a b p q e f = omega arith

pub one_front : (profile : PacketProfile) (p : Prologue) (a b : List ℕ) → AreWords a → AreWords b → IsPrologue profile p a → IsPrologue profile p b → a ≡ b
one_front profile p a b fits fits' s t =
    let first = one_header_word profile p.header (get_or a 0 0) (get_or b 0 0) (fits 0) (fits' 0) s.header t.header in
    let class = one_class_word (get_or a 2 0) (get_or b 2 0) (fits 2) (fits' 2) (sym s.pad ∙ t.pad) (s.class_word.clear ∙ sym t.class_word.clear) (s.class_word.cid ∙ sym t.class_word.cid) in
    let codes = one_codes_word (get_or a 3 0) (get_or b 3 0) (fits 3) (fits' 3) (sym s.information ∙ t.information) (sym s.packet ∙ t.packet) in
    spelled profile p a (get_or a 0 0) (get_or a 2 0) (get_or a 3 0) fits s refl refl refl
    ∙ sym (spelled profile p b (get_or a 0 0) (get_or a 2 0) (get_or a 3 0) fits' t first class codes)
