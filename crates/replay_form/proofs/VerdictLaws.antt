-- Bytes have one verdict: they are a record, or wrong at one place, or end inside the header or a frame.
use Rattle.std.proofs.Common.{◌≡◌, ℕ, ◌<◌, ◌≤◌, inl, inr, List, [], ◌∷◌, ◌++◌, length, take, drop, refl, sym, ap, ◌∙◌, subst, append_assoc, length-append, arith}
use Rattle.std.proofs.lemmas.Bool.{cases_order}
use Rattle.std.proofs.lemmas.List.{take_at, drop_at}
use Rattle.vrt_time.specs.Time.{TimeStamp}
use Rattle.replay_form.specs.Head.{IsHead}
use Rattle.replay_form.proofs.OneHead.{one_head}
use Rattle.replay_form.specs.HeadFields.{AreRight, IsWholeHead, IsHeadPart, IsHeadWrongAt, is_second, field_at, field_count, head_size, end_of, offset_of}
use Rattle.replay_form.specs.FrameFields.{Frame, IsFramePart, IsFrameWrongAt, IsWholeFrame, frame_in, frame_end, frame_field, frame_offset, frame_size}
use Rattle.replay_form.proofs.NumberLaws.{number_at-append}
use Rattle.replay_form.proofs.PrefixLaws.{right-append, count-append, size-append, frame_good-append}
use Rattle.replay_form.specs.Record.{AreFrames, last_stamp, first_stamp, IsCut, IsRecord, IsRecordWrongAt, EndsInside}
use Rattle.replay_form.proofs.RecordLaws.{nothing_open, cut-append}
use Rattle.replay_form.specs.Standing.{HasNoHead, HasFrames, IsLeftOver}
use Rattle.replay_form.specs.declared.record_head.RecordHead.{RecordHead}

-- a whole frame in front is not open, and nothing in it is wrong
frame_not_part : (last : TimeStamp) (front back : List ℕ) → IsWholeFrame last front → IsFramePart last (front ++ back) → ⊥
frame_not_part last front back whole part =
    let good = frame_good-append last (frame_field part.index) front back (whole.right part.index part.among) in
    omega (arith, good.there, part.missing)

frame_not_wrong : (last : TimeStamp) (front back : List ℕ) (offset : ℕ) → IsWholeFrame last front → IsFrameWrongAt last (front ++ back) offset → ⊥
frame_not_wrong last front back offset whole wrong =
    wrong.wrong (frame_good-append last (frame_field wrong.index) front back (whole.right wrong.index wrong.among)).right

part_not_wrong : (last : TimeStamp) (bytes : List ℕ) (offset : ℕ) → IsFramePart last bytes → IsFrameWrongAt last bytes offset → ⊥
part_not_wrong last bytes offset part wrong =
    elim (cases_order part.index wrong.index) [
      | inl e ↦ (let there = subst (λ i. frame_end (frame_field i) bytes ≤ length bytes) (sym e) wrong.there in omega (arith, part.missing))
      | inr (inl less) ↦ (let there = (wrong.before part.index less).there in omega (arith, part.missing))
      | inr (inr more) ↦ wrong.wrong (part.before wrong.index more).right
    ]

one_wrong : (last : TimeStamp) (bytes : List ℕ) (a b : ℕ) → IsFrameWrongAt last bytes a → IsFrameWrongAt last bytes b → a ≡ b
one_wrong last bytes a b p q =
    elim (cases_order p.index q.index) [
      | inl e ↦ p.place ∙ ap (λ i. frame_offset (frame_field i)) e ∙ sym q.place
      | inr (inl less) ↦ absurd (p.wrong (q.before p.index less).right)
      | inr (inr more) ↦ absurd (q.wrong (p.before q.index more).right)
    ]

-- the same of a header
head_there : (front back : List ℕ) (k : ℕ) → IsWholeHead front → k < field_count (front ++ back) → AreRight (front ++ back) (field_count front)
head_there front back k whole h = right-append front back (field_count front) whole.right

head_among : (front back : List ℕ) (k : ℕ) → IsWholeHead front → k < field_count (front ++ back) → k < field_count front
head_among front back k whole h = (let same = count-append front back (omega (arith, whole.all)) in omega arith)

head_not_part : (front back : List ℕ) → IsWholeHead front → IsHeadPart (front ++ back) → ⊥
head_not_part front back whole part =
    let good = head_there front back part.0 whole part.1.among part.0 (head_among front back part.0 whole part.1.among) in
    omega (arith, good.there, part.1.missing)

head_not_wrong : (front back : List ℕ) (offset : ℕ) → IsWholeHead front → IsHeadWrongAt (front ++ back) offset → ⊥
head_not_wrong front back offset whole wrong =
    let k = wrong.index in
    let good = head_there front back k whole wrong.first.among k (head_among front back k whole wrong.first.among) in
    wrong.first.wrong good.right

head_part_not_wrong : (bytes : List ℕ) (offset : ℕ) → IsHeadPart bytes → IsHeadWrongAt bytes offset → ⊥
head_part_not_wrong bytes offset part wrong =
    elim (cases_order part.0 wrong.index) [
      | inl e ↦ (let there = subst (λ i. end_of (is_second bytes) (field_at (is_second bytes) i) ≤ length bytes) (sym e) wrong.first.there in omega (arith, part.1.missing))
      | inr (inl less) ↦ (let there = (wrong.first.before part.0 less).there in omega (arith, part.1.missing))
      | inr (inr more) ↦ wrong.first.wrong (part.1.before wrong.index more).right
    ]

one_head_wrong : (bytes : List ℕ) (a b : ℕ) → IsHeadWrongAt bytes a → IsHeadWrongAt bytes b → a ≡ b
one_head_wrong bytes a b p q =
    elim (cases_order p.index q.index) [
      | inl e ↦ p.place ∙ ap (λ i. offset_of (is_second bytes) (field_at (is_second bytes) i)) e ∙ sym q.place
      | inr (inl less) ↦ absurd (p.first.wrong (q.first.before p.index less).right)
      | inr (inr more) ↦ absurd (q.first.wrong (p.first.before q.index more).right)
    ]

-- two fronts of one length
same_front : (a b x y : List ℕ) → length a ≡ length b → a ++ x ≡ b ++ y → (a ≡ b) × (x ≡ y)
same_front a b x y n e = (
  sym (take_at a x (length a) refl) ∙ ap (take (length a)) e ∙ take_at b y (length a) (sym n),
  sym (drop_at a x (length a) refl) ∙ ap (drop (length a)) e ∙ drop_at b y (length a) (sym n),
)

head_front : (a b x y : List ℕ) → IsWholeHead a → IsWholeHead b → a ++ x ≡ b ++ y → (a ≡ b) × (x ≡ y)
head_front a b x y p q e =
    let s = size-append a x (omega (arith, p.all)) in
    let t = size-append b y (omega (arith, q.all)) in
    same_front a b x y (p.all ∙ sym s ∙ ap head_size e ∙ t ∙ sym q.all) e

frame_front : (last : TimeStamp) (a b x y : List ℕ) → IsWholeFrame last a → IsWholeFrame last b → a ++ x ≡ b ++ y → (a ≡ b) × (x ≡ y)
frame_front last a b x y p q e =
    let s = number_at-append 16 4 a x (omega (arith, p.all)) in
    let t = number_at-append 16 4 b y (omega (arith, q.all)) in
    let u = ap frame_size e in
    same_front a b x y (omega (arith, p.all, q.all)) e

-- no whole frame begins the rest
Rests : TimeStamp → List ℕ → Type 0
Rests last rest = (front back : List ℕ) → rest ≡ front ++ back → IsWholeFrame last front → ⊥

nothing_rests : (last : TimeStamp) → Rests last []
unfolding Rests
nothing_rests last front back e whole = omega (arith, ap length e, length-append front back, whole.all)

part_rests : (last : TimeStamp) (rest : List ℕ) → IsFramePart last rest → Rests last rest
unfolding Rests
part_rests last rest part front back e whole = frame_not_part last front back whole (subst (IsFramePart last) e part)

wrong_rests : (last : TimeStamp) (rest : List ℕ) (offset : ℕ) → IsFrameWrongAt last rest offset → Rests last rest
unfolding Rests
wrong_rests last rest offset wrong front back e whole = frame_not_wrong last front back offset whole (subst (λ xs. IsFrameWrongAt last xs offset) e wrong)

-- frames and such a rest are cut in one way
frames_one : (last : TimeStamp) (fs gs : List Frame) (b c r s : List ℕ) → AreFrames last fs b → AreFrames last gs c → b ++ r ≡ c ++ s
    → Rests (last_stamp last fs) r → Rests (last_stamp last gs) s → (fs ≡ gs) × (r ≡ s)
unfolding Rests
frames_one last [] [] b c r s p q e x y = (refl, ap (λ xs. xs ++ r) (sym p) ∙ e ∙ ap (λ xs. xs ++ s) q)
frames_one last [] (g ∷ gs) b c r s p q e x y =
    absurd (x q.0 (q.1.0 ++ s) (ap (λ xs. xs ++ r) (sym p) ∙ e ∙ ap (λ xs. xs ++ s) q.1.1.0 ∙ append_assoc q.0 q.1.0 s) q.1.1.1.0.whole)
frames_one last (f ∷ fs) [] b c r s p q e x y =
    absurd (y p.0 (p.1.0 ++ r) (ap (λ xs. xs ++ s) (sym q) ∙ sym e ∙ ap (λ xs. xs ++ r) p.1.1.0 ∙ append_assoc p.0 p.1.0 r) p.1.1.1.0.whole)
frames_one last (f ∷ fs) (g ∷ gs) b c r s p q e x y =
    let same = frame_front last p.0 q.0 (p.1.0 ++ r) (q.1.0 ++ s) p.1.1.1.0.whole q.1.1.1.0.whole
    (sym (append_assoc p.0 p.1.0 r) ∙ ap (λ xs. xs ++ r) (sym p.1.1.0) ∙ e ∙ ap (λ xs. xs ++ s) q.1.1.0 ∙ append_assoc q.0 q.1.0 s) in
    let frame : f ≡ g = p.1.1.1.0.told ∙ ap frame_in same.0 ∙ sym q.1.1.1.0.told in
    let later = frames_one f.stamp fs gs p.1.0 q.1.0 r s p.1.1.1.1 (subst (λ (h : Frame). AreFrames h.stamp gs q.1.0) (sym frame) q.1.1.1.1) same.1 x
    (subst (λ (h : Frame). Rests (last_stamp h.stamp gs) s) (sym frame) y) in
    (ap (λ h. h ∷ fs) frame ∙ ap (λ hs. g ∷ hs) later.0, later.1)

cut_one : (h i : RecordHead) (fs gs : List Frame) (r s bytes : List ℕ) → IsCut h fs r bytes → IsCut i gs s bytes
    → Rests (last_stamp first_stamp fs) r → Rests (last_stamp first_stamp gs) s → (fs ≡ gs) × (r ≡ s)
cut_one h i fs gs r s bytes p q x y =
    let same = head_front p.header q.header (p.body ++ r) (q.body ++ s) p.says.whole q.says.whole (sym p.whole ∙ q.whole) in
    frames_one first_stamp fs gs p.body q.body r s p.framed q.framed same.1 x y

cut_not_part : (h : RecordHead) (fs : List Frame) (r bytes : List ℕ) → IsCut h fs r bytes → IsHeadPart bytes → ⊥
cut_not_part h fs r bytes cut part = head_not_part cut.header (cut.body ++ r) cut.says.whole (subst IsHeadPart cut.whole part)

cut_not_wrong : (h : RecordHead) (fs : List Frame) (r bytes : List ℕ) (offset : ℕ) → IsCut h fs r bytes → IsHeadWrongAt bytes offset → ⊥
cut_not_wrong h fs r bytes offset cut wrong = head_not_wrong cut.header (cut.body ++ r) offset cut.says.whole (subst (λ xs. IsHeadWrongAt xs offset) cut.whole wrong)

cut_one_head : (h i : RecordHead) (fs gs : List Frame) (r s bytes : List ℕ) → IsCut h fs r bytes → IsCut i gs s bytes → h ≡ i
cut_one_head h i fs gs r s bytes p q =
    let same = head_front p.header q.header (p.body ++ r) (q.body ++ s) p.says.whole q.says.whole (sym p.whole ∙ q.whole) in
    one_head h i q.header (subst (IsHead h) same.0 p.says) q.says

-- a record has one header and one list of frames,
pub one_record : (h i : RecordHead) (fs gs : List Frame) (bytes : List ℕ) → IsRecord h fs bytes → IsRecord i gs bytes → (h ≡ i) × (fs ≡ gs)
one_record h i fs gs bytes p q = (cut_one_head h i fs gs [] [] bytes p q, (cut_one h i fs gs [] [] bytes p q (nothing_rests _) (nothing_rests _)).0)

-- is wrong nowhere, and ends nowhere inside;
pub record_not_wrong : (h : RecordHead) (fs gs : List Frame) (bytes : List ℕ) (offset : ℕ) → IsRecord h fs bytes → IsRecordWrongAt gs bytes offset → ⊥
record_not_wrong h fs gs bytes offset p (inl early) = cut_not_wrong h fs [] bytes offset p early.1
record_not_wrong h fs gs bytes offset p (inr w) =
    let same = cut_one h w.head fs gs [] w.rest bytes p w.cut (nothing_rests _) (wrong_rests _ w.rest w.place w.frame) in
    part_not_wrong (last_stamp first_stamp gs) w.rest w.place (subst (IsFramePart (last_stamp first_stamp gs)) same.1 (nothing_open _)) w.frame

pub record_not_inside : (h : RecordHead) (fs : List Frame) (bytes : List ℕ) → IsRecord h fs bytes → EndsInside bytes → ⊥
record_not_inside h fs bytes p (inl part) = cut_not_part h fs [] bytes p part
record_not_inside h fs bytes p (inr o) =
    let open_ = o.1.1.1.1 in
    let same = cut_one h o.0 fs o.1.0 [] o.1.1.0 bytes p open_.cut (nothing_rests _) (part_rests _ o.1.1.0 open_.part) in
    omega (arith, o.1.1.1.0, ap length same.1)

-- what is wrong ends nowhere inside, and is wrong at one place
pub wrong_not_inside : (gs : List Frame) (bytes : List ℕ) (offset : ℕ) → IsRecordWrongAt gs bytes offset → EndsInside bytes → ⊥
wrong_not_inside gs bytes offset (inl early) (inl part) = head_part_not_wrong bytes offset part early.1
wrong_not_inside gs bytes offset (inl early) (inr o) = cut_not_wrong o.0 o.1.0 o.1.1.0 bytes offset o.1.1.1.1.cut early.1
wrong_not_inside gs bytes offset (inr w) (inl part) = cut_not_part w.head gs w.rest bytes w.cut part
wrong_not_inside gs bytes offset (inr w) (inr o) =
    let open_ = o.1.1.1.1 in
    let same = cut_one w.head o.0 gs o.1.0 w.rest o.1.1.0 bytes w.cut open_.cut (wrong_rests _ w.rest w.place w.frame) (part_rests _ o.1.1.0 open_.part) in
    let part : IsFramePart (last_stamp first_stamp gs) w.rest =
    subst (λ xs. IsFramePart (last_stamp first_stamp gs) xs) (sym same.1) (subst (λ fs. IsFramePart (last_stamp first_stamp fs) o.1.1.0) (sym same.0) open_.part) in
    part_not_wrong (last_stamp first_stamp gs) w.rest w.place part w.frame

pub one_place : (fs gs : List Frame) (bytes : List ℕ) (a b : ℕ) → IsRecordWrongAt fs bytes a → IsRecordWrongAt gs bytes b → a ≡ b
one_place fs gs bytes a b (inl p) (inl q) = one_head_wrong bytes a b p.1 q.1
one_place fs gs bytes a b (inl p) (inr w) = absurd (cut_not_wrong w.head gs w.rest bytes a w.cut p.1)
one_place fs gs bytes a b (inr w) (inl q) = absurd (cut_not_wrong w.head fs w.rest bytes b w.cut q.1)
one_place fs gs bytes a b (inr v) (inr w) =
    let same = cut_one v.head w.head fs gs v.rest w.rest bytes v.cut w.cut (wrong_rests _ v.rest v.place v.frame) (wrong_rests _ w.rest w.place w.frame) in
    let frame : IsFrameWrongAt (last_stamp first_stamp fs) v.rest w.place =
    subst (λ xs. IsFrameWrongAt (last_stamp first_stamp fs) xs w.place) (sym same.1)
    (subst (λ hs. IsFrameWrongAt (last_stamp first_stamp hs) w.rest w.place) (sym same.0) w.frame) in
    let place = one_wrong (last_stamp first_stamp fs) v.rest v.place w.place v.frame frame in
    omega (arith, v.told, w.told, ap length same.1)

-- what stands whole in bytes, as far as they go, is one header and one list of frames, or no header
left_rests : (frames : List Frame) (rest : List ℕ) → IsLeftOver frames rest → Rests (last_stamp first_stamp frames) rest
left_rests frames rest (inl part) = part_rests (last_stamp first_stamp frames) rest part
left_rests frames rest (inr wrong) = wrong_rests (last_stamp first_stamp frames) rest wrong.0 wrong.1

pub one_standing : (h i : RecordHead) (fs gs : List Frame) (bytes : List ℕ) → HasFrames h fs bytes → HasFrames i gs bytes → (h ≡ i) × (fs ≡ gs)
one_standing h i fs gs bytes p q = (
  cut_one_head h i fs gs p.rest q.rest bytes p.cut q.cut,
  (cut_one h i fs gs p.rest q.rest bytes p.cut q.cut (left_rests fs p.rest p.behind) (left_rests gs q.rest q.behind)).0,
)

pub not_headless : (h : RecordHead) (fs : List Frame) (bytes : List ℕ) → HasFrames h fs bytes → ¬ HasNoHead bytes
not_headless h fs bytes p (inl part) = cut_not_part h fs p.rest bytes p.cut part
not_headless h fs bytes p (inr wrong) = cut_not_wrong h fs p.rest bytes wrong.0 p.cut wrong.1

-- ---- more bytes

-- frames with anything behind them begin the frames that the same bytes are cut into
frames_more : (last : TimeStamp) (fs gs : List Frame) (b c r s : List ℕ) → AreFrames last fs b → AreFrames last gs c → b ++ r ≡ c ++ s
    → Rests (last_stamp last gs) s → (later : List Frame) × (gs ≡ fs ++ later)
unfolding Rests
frames_more last [] gs b c r s p q e y = (gs, refl)
frames_more last (f ∷ fs) [] b c r s p q e y =
    absurd (y p.0 (p.1.0 ++ r) (ap (λ xs. xs ++ s) (sym q) ∙ sym e ∙ ap (λ xs. xs ++ r) p.1.1.0 ∙ append_assoc p.0 p.1.0 r) p.1.1.1.0.whole)
frames_more last (f ∷ fs) (g ∷ gs) b c r s p q e y =
    let same = frame_front last p.0 q.0 (p.1.0 ++ r) (q.1.0 ++ s) p.1.1.1.0.whole q.1.1.1.0.whole
    (sym (append_assoc p.0 p.1.0 r) ∙ ap (λ xs. xs ++ r) (sym p.1.1.0) ∙ e ∙ ap (λ xs. xs ++ s) q.1.1.0 ∙ append_assoc q.0 q.1.0 s) in
    let frame : f ≡ g = p.1.1.1.0.told ∙ ap frame_in same.0 ∙ sym q.1.1.1.0.told in
    let later = frames_more f.stamp fs gs p.1.0 q.1.0 r s p.1.1.1.1 (subst (λ (h : Frame). AreFrames h.stamp gs q.1.0) (sym frame) q.1.1.1.1) same.1
    (subst (λ (h : Frame). Rests (last_stamp h.stamp gs) s) (sym frame) y) in
    (later.0, ap (λ h. h ∷ gs) (sym frame) ∙ ap (λ hs. f ∷ hs) later.1)

-- what stands whole in bytes stands first in more of them,
pub standing_stays : (h i : RecordHead) (fs gs : List Frame) (bytes more : List ℕ) → HasFrames h fs bytes → HasFrames i gs (bytes ++ more)
    → (h ≡ i) × ((later : List Frame) × (gs ≡ fs ++ later))
standing_stays h i fs gs bytes more p q =
    let cut = cut-append h fs p.rest bytes more p.cut in
    let same = head_front cut.header q.cut.header (cut.body ++ (p.rest ++ more)) (q.cut.body ++ q.rest) cut.says.whole q.cut.says.whole (sym cut.whole ∙ q.cut.whole) in (
      cut_one_head h i fs gs (p.rest ++ more) q.rest (bytes ++ more) cut q.cut,
      frames_more first_stamp fs gs cut.body q.cut.body (p.rest ++ more) q.rest cut.framed q.cut.framed same.1 (left_rests gs q.rest q.behind),
    )

-- so a header that stands in bytes stands in more of them,
pub not_headless_later : (h : RecordHead) (fs : List Frame) (bytes more : List ℕ) → HasFrames h fs bytes → ¬ HasNoHead (bytes ++ more)
not_headless_later h fs bytes more p (inl part) = cut_not_part h fs (p.rest ++ more) (bytes ++ more) (cut-append h fs p.rest bytes more p.cut) part
not_headless_later h fs bytes more p (inr wrong) = cut_not_wrong h fs (p.rest ++ more) (bytes ++ more) wrong.0 (cut-append h fs p.rest bytes more p.cut) wrong.1

-- and all of a record stands whole in its bytes
pub record_stands : (h : RecordHead) (fs : List Frame) (bytes : List ℕ) → IsRecord h fs bytes → HasFrames h fs bytes
record_stands h fs bytes p = record { rest = []; cut = p; behind = inl (nothing_open (last_stamp first_stamp fs)) }
