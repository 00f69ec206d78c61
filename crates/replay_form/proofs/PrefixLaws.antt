-- Bytes that come behind change nothing of what stands in front of them.
use Rattle.std.proofs.Common.{◌≡◌, ℕ, zero, suc, ◌+◌, ◌*◌, ◌<◌, ◌≤◌, inl, inr, Bool, true, nat_le, List, ◌++◌, length, take, refl, sym, ap, ◌∙◌, subst, length-append, arith}
use Rattle.std.proofs.lemmas.Grind.{common_steps}
use Rattle.std.proofs.lemmas.Bool.{cases_order}
use Rattle.std.proofs.lemmas.List.{take-append-le}
use Rattle.vrt_time.specs.Time.{TimeStamp}
use Rattle.replay_form.specs.Numbers.{number_at}
use Rattle.replay_form.proofs.NumberLaws.{number_at-append}
use Rattle.replay_form.specs.HeadFields.{IsRight, IsRightIn, IsGood, AreRight, IsHeadWrongAt, IsFirstWrong, is_second, field_at, field_count, head_size, route_size, route_fields, end_of, offset_of}
use Rattle.replay_form.specs.FrameFields.{IsFrameRightIn, IsFrameGood, AreFrameRight, IsFrameWrongAt, frame_field, frame_end}
use Rattle.replay_form.specs.declared.head_field.HeadField.{HeadField}
use Rattle.replay_form.specs.declared.frame_field.FrameField.{FrameField}
use Rattle.replay_form.specs.declared.frame_field.FrameField.TheVariants.{Seconds, Picos, Port, Zero, Length, Datagram}

-- the form stands in the first eight bytes
pub is_second-append : (front back : List ℕ) → 8 ≤ length front → is_second (front ++ back) ≡ is_second front
is_second-append front back h =
    let there : nat_le 8 (length (front ++ back)) ≡ true = grind (arith, common_steps, length-append front back) in
    let here : nat_le 8 (length front) ≡ true = grind (arith, common_steps) in
    rw (there, here, number_at-append 0 8 front back h) refl

-- more bytes: the size that is told stays, and what was judged is judged
pub size-append : (front back : List ℕ) → 40 ≤ length front → head_size (front ++ back) ≡ head_size front
size-append front back h =
    ap (λ s. 332 + route_size s * number_at 36 4 (front ++ back)) (is_second-append front back (omega arith))
    ∙ ap (λ n. 332 + route_size (is_second front) * n) (number_at-append 36 4 front back h)

pub count-append : (front back : List ℕ) → 40 ≤ length front → field_count (front ++ back) ≡ field_count front
count-append front back h =
    ap (λ s. 58 + route_fields s * number_at 36 4 (front ++ back)) (is_second-append front back (omega arith))
    ∙ ap (λ n. 58 + route_fields (is_second front) * n) (number_at-append 36 4 front back h)

-- a field is as good as before
pub good-append : (second : Bool) (field : HeadField) (front back : List ℕ) → IsGood second field front → IsGood second field (front ++ back)
good-append second field front back good = record {
  there = omega (arith, length-append front back, good.there);
  right = subst (IsRightIn second field) (sym (take-append-le (end_of second field) front back good.there)) good.right;
}

right_eight : (bytes : List ℕ) (k : ℕ) → 0 < k → AreRight bytes k → 8 ≤ length bytes
right_eight bytes k h right = (right 0 h).there

pub right-append : (front back : List ℕ) (k : ℕ) → AreRight front k → AreRight (front ++ back) k
right-append front back k right i h =
    let form = is_second-append front back (right_eight front k (omega arith) right) in
    subst (λ s. IsGood s (field_at s i) (front ++ back)) (sym form) (good-append (is_second front) (field_at (is_second front) i) front back (right i h))

wrong_eight : (bytes : List ℕ) (k : ℕ) → IsFirstWrong bytes k → 8 ≤ length bytes
wrong_eight bytes zero first = first.there
wrong_eight bytes (suc k) first = right_eight bytes (suc k) (omega arith) first.before

among_behind : (front back : List ℕ) (k : ℕ) → k < field_count front → 58 ≤ k → AreRight front k → k < field_count (front ++ back)
among_behind front back k h low right =
    let there = (right 8 (omega arith)).there in
    rw (is_second-append front back (omega arith), number_at-append 36 4 front back there) h

-- the field behind the last right one is among all as before
pub among-append : (front back : List ℕ) (k : ℕ) → k < field_count front → AreRight front k → k < field_count (front ++ back)
among-append front back k h right =
    elim (cases_order k 58) [
      | inl e ↦ among_behind front back k h (omega arith) right
      | inr (inl less) ↦ omega arith
      | inr (inr more) ↦ among_behind front back k h (omega arith) right
    ]

-- what was wrong stays wrong, at the same place
pub wrong-append : (front back : List ℕ) (offset : ℕ) → IsHeadWrongAt front offset → IsHeadWrongAt (front ++ back) offset
wrong-append front back offset wrong =
    let k = wrong.index in
    let first = wrong.first in
    let eight : 8 ≤ length front = wrong_eight front k first in
    let form = is_second-append front back eight in
    let field = field_at (is_second front) k in
    let same : IsRightIn (is_second front) field (take (end_of (is_second front) field) (front ++ back)) → IsRightIn (is_second front) field (take (end_of (is_second front) field) front) =
    subst (IsRightIn (is_second front) field) (take-append-le (end_of (is_second front) field) front back first.there) in
    let long : end_of (is_second front) field ≤ length (front ++ back) = omega (arith, length-append front back, first.there) in record {
      index = k;
      first = record {
        among = among-append front back k first.among first.before;
        before = right-append front back k first.before;
        there = subst (λ s. end_of s (field_at s k) ≤ length (front ++ back)) (sym form) long;
        wrong = subst (λ s. ¬ IsRight s (field_at s k) (front ++ back)) (sym form) (λ r. first.wrong (same r));
      };
      place = wrong.place ∙ ap (λ s. offset_of s (field_at s k)) (sym form);
    }

-- the same of a frame
frame_end-append : (field : FrameField) (front back : List ℕ) → frame_end field front ≤ length front → frame_end field (front ++ back) ≡ frame_end field front
frame_end-append Seconds front back h = refl
frame_end-append Picos front back h = refl
frame_end-append Port front back h = refl
frame_end-append Zero front back h = refl
frame_end-append Length front back h = refl
frame_end-append Datagram front back h = ap (λ n. 20 + n) (number_at-append 16 4 front back (omega arith))

pub frame_good-append : (last : TimeStamp) (field : FrameField) (front back : List ℕ) → IsFrameGood last field front → IsFrameGood last field (front ++ back)
frame_good-append last field front back good =
    let e = frame_end-append field front back good.there in record {
      there = omega (arith, length-append front back, good.there, e);
      right = subst (IsFrameRightIn last field) (sym (ap (λ n. take n (front ++ back)) e ∙ take-append-le (frame_end field front) front back good.there)) good.right;
    }

pub frame_right-append : (last : TimeStamp) (front back : List ℕ) (k : ℕ) → AreFrameRight last front k → AreFrameRight last (front ++ back) k
frame_right-append last front back k right i h = frame_good-append last (frame_field i) front back (right i h)

pub frame_wrong-append : (last : TimeStamp) (front back : List ℕ) (offset : ℕ) → IsFrameWrongAt last front offset → IsFrameWrongAt last (front ++ back) offset
frame_wrong-append last front back offset wrong =
    let field = frame_field wrong.index in
    let e = frame_end-append field front back wrong.there in
    let same = ap (λ n. take n (front ++ back)) e ∙ take-append-le (frame_end field front) front back wrong.there in record {
      index = wrong.index;
      among = wrong.among;
      before = frame_right-append last front back wrong.index wrong.before;
      there = omega (arith, length-append front back, wrong.there, e);
      wrong = λ r. wrong.wrong (subst (IsFrameRightIn last field) same r);
      place = wrong.place;
    }
