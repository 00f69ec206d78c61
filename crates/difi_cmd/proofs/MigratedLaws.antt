-- A record has one migrated text, which is a record of form 2 with the same frames.
use Rattle.std.proofs.Common.{◌≡◌, ℕ, zero, suc, ◌<◌, ◌≤◌, List, [], ◌∷◌, ◌++◌, length, take, drop, refl, sym, ap, ◌∙◌, subst, append-nil, arith}
use Rattle.std.proofs.lemmas.List.{take_at, drop_at}
use Rattle.vrt_words.specs.Words.{AreBytes}
use Rattle.vrt_words.proofs.WordLaws.{AreBytes-take, AreBytes-drop}
use Rattle.vrt_time.specs.Time.{TimeStamp}
use Rattle.replay_form.specs.Numbers.{number_at}
use Rattle.replay_form.specs.FrameFields.{Frame, IsFrame, IsFrameGood, frame_field}
use Rattle.replay_form.specs.Head.{IsHead}
use Rattle.replay_form.specs.Record.{AreFrames, IsRecord, first_stamp}
use Rattle.replay_form.specs.declared.record_head.RecordHead.{RecordHead}
use Rattle.replay_form.proofs.NumberLaws.{number_at-take}
use Rattle.replay_form.proofs.FrameLaws.{frame_ranges, whole_first}
use Rattle.replay_form.proofs.HeadSpellingLaws.{size_told}
use Rattle.replay_form.specs.SecondForm.{in_second_form}
use Rattle.difi_cmd.specs.Migrated.{AreFrameBytes, IsMigrated, ChangesForm}
use Rattle.difi_cmd.proofs.OneSpelling.{one_frame, one_header}

-- ---- frames

good_behind : (last : TimeStamp) (bytes : List ℕ) (i : ℕ) → last.seconds ≤ number_at 0 4 bytes → (number_at 0 4 bytes ≡ last.seconds → last.picos ≤ number_at 4 8 bytes)
    → i < 6 → IsFrameGood first_stamp (frame_field i) bytes → IsFrameGood last (frame_field i) bytes
good_behind last bytes zero from rising h g = record { there = g.there; right = let e = number_at-take 0 4 4 bytes (omega arith) in omega arith }
good_behind last bytes (suc zero) from rising h g = record {
  there = g.there;
  right = record {
    below = g.right.below;
    rising = λ e.
        let s = number_at-take 0 4 12 bytes (omega arith) in
        let p = number_at-take 4 8 12 bytes (omega arith) in
        let r = rising (sym s ∙ e) in
        omega arith;
  };
}
good_behind last bytes (suc (suc zero)) from rising h g = record { there = g.there; right = tt }
good_behind last bytes (suc (suc (suc zero))) from rising h g = record { there = g.there; right = g.right }
good_behind last bytes (suc (suc (suc (suc zero)))) from rising h g = record { there = g.there; right = g.right }
good_behind last bytes (suc (suc (suc (suc (suc zero))))) from rising h g = record { there = g.there; right = tt }
good_behind last bytes (suc (suc (suc (suc (suc (suc i)))))) from rising h g = absurd (omega arith)

-- other bytes of a frame stand behind the same one
frame_behind : (last : TimeStamp) (frame : Frame) (xs ys : List ℕ) → IsFrame last frame xs → IsFrame first_stamp frame ys → IsFrame last frame ys
frame_behind last frame xs ys a b =
    let ranges = frame_ranges last xs a.whole in
    let seconds : number_at 0 4 ys ≡ number_at 0 4 xs = ap (λ (f : Frame). f.stamp.seconds) (sym b.told ∙ a.told) in
    let picos : number_at 4 8 ys ≡ number_at 4 8 xs = ap (λ (f : Frame). f.stamp.picos) (sym b.told ∙ a.told) in
    record {
      whole = record {
        all = b.whole.all;
        right = λ i h. good_behind last ys i (omega (arith, ranges.seconds, seconds)) (λ e. let r = ranges.rising (sym seconds ∙ e) in omega arith) h (b.whole.right i h);
      };
      told = b.told;
    }

as_record : (last : TimeStamp) (frames : List Frame) (xs ys : List ℕ) → AreFrames last frames xs → AreFrameBytes frames ys → AreFrames last frames ys
as_record last [] xs ys a b = b
as_record last (frame ∷ frames) xs ys a b =
    (b.0, (b.1.0, (b.1.1.0, (frame_behind last frame a.0 b.0 a.1.1.1.0 b.1.1.1.0.says, as_record frame.stamp frames a.1.0 b.1.0 a.1.1.1.1 b.1.1.1.1))))

pub front_fits : (bytes front back : List ℕ) → AreBytes bytes → bytes ≡ front ++ back → AreBytes front
front_fits bytes front back fit e = subst AreBytes (ap (take (length front)) e ∙ take_at front back (length front) refl) (AreBytes-take (length front) bytes fit)

back_fits : (bytes front back : List ℕ) → AreBytes bytes → bytes ≡ front ++ back → AreBytes back
back_fits bytes front back fit e = subst AreBytes (ap (drop (length front)) e ∙ drop_at front back (length front) refl) (AreBytes-drop (length front) bytes fit)

as_bytes : (last : TimeStamp) (frames : List Frame) (xs : List ℕ) → AreBytes xs → AreFrames last frames xs → AreFrameBytes frames xs
as_bytes last [] xs fit a = a
as_bytes last (frame ∷ frames) xs fit a =
    let front = a.0 in
    let back = a.1.0 in
    let is = a.1.1.1.0 in
    let whole = a.1.1.0 in (
      front,
      (
        back,
        (
          whole,
          (
            record { fit = front_fits xs front back fit whole; says = record { whole = whole_first last front is.whole; told = is.told } },
            as_bytes frame.stamp frames back (back_fits xs front back fit whole) a.1.1.1.1,
          ),
        ),
      ),
    )

same_body : (frames : List Frame) (xs ys : List ℕ) → AreFrameBytes frames xs → AreFrameBytes frames ys → xs ≡ ys
same_body [] xs ys a b = a ∙ sym b
same_body (frame ∷ frames) xs ys a b =
    let p = a.1.1.1.0 in
    let q = b.1.1.1.0 in
    a.1.1.0 ∙ ap (λ l. l ++ a.1.0) (one_frame a.0 b.0 p.fit q.fit first_stamp first_stamp frame p.says q.says)
    ∙ ap (λ l. b.0 ++ l) (same_body frames a.1.0 b.1.0 a.1.1.1.1 b.1.1.1.1) ∙ sym b.1.1.0

-- ---- the laws

pub one_text : (head : RecordHead) (frames : List Frame) (text other : List ℕ) → IsMigrated head frames text → IsMigrated head frames other → text ≡ other
one_text head frames text other a b =
    a.1.1.1.0 ∙ ap (λ l. l ++ a.1.1.0) (one_header a.0 b.0 a.1.0.fit b.1.0.fit (in_second_form head) refl a.1.0.says b.1.0.says)
    ∙ ap (λ l. b.0 ++ l) (same_body frames a.1.1.0 b.1.1.0 a.1.1.1.1 b.1.1.1.1) ∙ sym b.1.1.1.0

-- what is migrated again stays
pub again : (head : RecordHead) (frames : List Frame) (text other : List ℕ) → IsMigrated head frames text → IsMigrated (in_second_form head) frames other → other ≡ text
again head frames text other a b = one_text head frames other text (b.0, (record { fit = b.1.0.fit; says = b.1.0.says }, b.1.1)) a

pub second_record : (head : RecordHead) (frames : List Frame) (body text : List ℕ) → AreFrames first_stamp frames body → IsMigrated head frames text → IsRecord (in_second_form head) frames text
second_record head frames body text framed m = record {
  header = m.0;
  body = m.1.1.0;
  whole = m.1.1.1.0 ∙ ap (λ l. m.0 ++ l) (sym (append-nil m.1.1.0));
  says = m.1.0.says;
  framed = as_record first_stamp frames body m.1.1.0 framed m.1.1.1.1;
}

pub is_record : (head : RecordHead) (frames : List Frame) (bytes text : List ℕ) → IsRecord head frames bytes → IsMigrated head frames text → IsRecord (in_second_form head) frames text
is_record head frames bytes text cut m = second_record head frames cut.body text cut.framed m

-- a record is its header and its frames
pub whole_record : (head : RecordHead) (frames : List Frame) (bytes : List ℕ) → (cut : IsRecord head frames bytes) → bytes ≡ cut.header ++ cut.body
whole_record head frames bytes cut = cut.whole ∙ ap (λ l. cut.header ++ l) (append-nil cut.body)

pub frames_of : (head : RecordHead) (frames : List Frame) (bytes : List ℕ) → AreBytes bytes → (cut : IsRecord head frames bytes) → AreFrameBytes frames cut.body
frames_of head frames bytes fit cut =
    as_bytes first_stamp frames cut.body (back_fits bytes cut.header cut.body fit (whole_record head frames bytes cut)) cut.framed

pub changes_form : (head : RecordHead) (frames : List Frame) (bytes text : List ℕ) → AreBytes bytes → IsRecord head frames bytes → IsMigrated head frames text → ChangesForm head bytes text
changes_form head frames bytes text fit cut m = record {
  old = cut.header;
  new = m.0;
  body = cut.body;
  whole = whole_record head frames bytes cut;
  says = cut.says;
  migrated = m.1.0;
  text_is = m.1.1.1.0 ∙ ap (λ l. m.0 ++ l) (same_body frames m.1.1.0 cut.body m.1.1.1.1 (frames_of head frames bytes fit cut));
}

-- behind its header some bytes have one rest
same_rest : (head : RecordHead) (bytes xs ys front back : List ℕ) → bytes ≡ xs ++ ys → bytes ≡ front ++ back → IsHead head xs → IsHead head front → back ≡ ys
same_rest head bytes xs ys front back e f a b =
    let same : length front ≡ length xs = sym (size_told head front b) ∙ size_told head xs a in
    sym (drop_at front back (length xs) same) ∙ ap (drop (length xs)) (sym f ∙ e) ∙ drop_at xs ys (length xs) refl

pub form_changed : (head : RecordHead) (frames : List Frame) (bytes text : List ℕ) → AreBytes bytes → IsRecord head frames bytes → ChangesForm head bytes text → IsMigrated head frames text
form_changed head frames bytes text fit cut c =
    let same = same_rest head bytes c.old c.body cut.header cut.body c.whole (whole_record head frames bytes cut) c.says cut.says in
    (c.new, (c.migrated, (c.body, (c.text_is, subst (AreFrameBytes frames) same (frames_of head frames bytes fit cut)))))

-- a record of form 2 is its own migrated text
pub stays : (head : RecordHead) (frames : List Frame) (bytes : List ℕ) → AreBytes bytes → IsRecord head frames bytes → head.form ≡ 2 → IsMigrated head frames bytes
stays head frames bytes fit cut form =
    let whole = whole_record head frames bytes cut in
    let same : in_second_form head ≡ head = ap (λ n. record head { form = n }) (sym form) in (
      cut.header,
      (
        record { fit = front_fits bytes cut.header cut.body fit whole; says = subst (λ (h : RecordHead). IsHead h cut.header) (sym same) cut.says },
        (cut.body, (whole, frames_of head frames bytes fit cut)),
      ),
    )
