-- How far a frame has come, by its bytes and by its fields.
use Rattle.std.proofs.Common.{◌≡◌, ℕ, zero, suc, ◌+◌, ◌<◌, ◌≤◌, inl, inr, List, ◌++◌, length, take, drop, sym, ap, ◌∙◌, subst, below_more, append-nil, arith}
use Rattle.std.proofs.lemmas.Bool.{cases_order}
use Rattle.std.proofs.lemmas.List.{length-drop, length-take-le, take-append-drop, take-take}
use Rattle.vrt_time.specs.Time.{TimeStamp}
use Rattle.replay_form.specs.Numbers.{number_at}
use Rattle.replay_form.proofs.NumberLaws.{number_at-append, number_at-take}
use Rattle.replay_form.specs.FrameFields.{ArePicos, AreFrameRight, IsFrameGood, IsFrameJudged, IsFramePart, IsFrameRightIn, IsFrameWrongAt, IsWholeFrame, frame_field, frame_end, frame_size}
use Rattle.replay_form.specs.declared.frame_field.FrameField.TheVariants.{Seconds, Picos, Zero, Length}
use Rattle.replay_form.proofs.PrefixLaws.{frame_right-append, frame_wrong-append}
use Rattle.replay_form.specs.Taking.{IsFrameBegun, IsFrameWhole}
use Rattle.replay_form.proofs.Taking.{all_of_piece, two_parts}

-- the first five fields end with the first 20 bytes, and the sixth with the frame
ends_early : (bytes : List ℕ) (i : ℕ) → i < 5 → frame_end (frame_field i) bytes ≤ 20
ends_early bytes zero h = omega arith
ends_early bytes (suc zero) h = omega arith
ends_early bytes (suc (suc zero)) h = omega arith
ends_early bytes (suc (suc (suc zero))) h = omega arith
ends_early bytes (suc (suc (suc (suc zero)))) h = omega arith
ends_early bytes (suc (suc (suc (suc (suc i))))) h = absurd (omega arith)

ends_within : (bytes : List ℕ) (i : ℕ) → frame_end (frame_field i) bytes ≤ frame_size bytes
ends_within bytes zero = omega arith
ends_within bytes (suc zero) = omega arith
ends_within bytes (suc (suc zero)) = omega arith
ends_within bytes (suc (suc (suc zero))) = omega arith
ends_within bytes (suc (suc (suc (suc zero)))) = omega arith
ends_within bytes (suc (suc (suc (suc (suc i))))) = omega arith

-- what is open is short
pub frame_short : (last : TimeStamp) (bytes : List ℕ) → IsFramePart last bytes → length bytes < frame_size bytes
frame_short last bytes part = let e = ends_within bytes part.index in omega (arith, part.missing)

-- where 20 bytes are there, five fields are right, and where they are not, one is missing
pub frame_right : (last : TimeStamp) (bytes : List ℕ) (judged : ℕ) → IsFrameJudged last bytes judged → 20 ≤ length bytes → AreFrameRight last bytes 5
frame_right last bytes judged j h i k =
    elim (cases_order judged 5) [
      | inl e ↦ j.right i (omega arith)
      | inr (inl less) ↦ absurd (let e = ends_early bytes judged less in omega (arith, j.missing (omega arith)))
      | inr (inr more) ↦ j.right i (omega arith)
    ]

pub frame_part : (last : TimeStamp) (bytes : List ℕ) (judged : ℕ) → IsFrameJudged last bytes judged → length bytes < 20 → IsFramePart last bytes
frame_part last bytes judged j h =
    elim (cases_order judged 6) [
      | inl e ↦ absurd (let there = (j.right 4 (omega arith)).there in omega arith)
      | inr (inl less) ↦ record { index = judged; among = less; before = j.right; missing = j.missing less }
      | inr (inr more) ↦ absurd (omega (arith, j.within))
    ]

-- a datagram has 65,535 bytes at most
pub frame_most : (last : TimeStamp) (bytes : List ℕ) → AreFrameRight last bytes 5 → frame_size bytes ≤ 65555
frame_most last bytes right =
    let most = (right 4 (omega arith)).right in
    let same = number_at-take 16 4 20 bytes (omega arith) in
    omega arith

-- with five fields right, the datagram is open or whole
pub datagram_open : (last : TimeStamp) (bytes : List ℕ) → AreFrameRight last bytes 5 → length bytes < frame_size bytes → IsFramePart last bytes
datagram_open last bytes right h = record { index = 5; among = omega arith; before = right; missing = h }

pub datagram_whole : (last : TimeStamp) (bytes : List ℕ) → AreFrameRight last bytes 5 → length bytes ≡ frame_size bytes → IsWholeFrame last bytes
datagram_whole last bytes right h = record {
  all = h;
  right = below_more (λ k. IsFrameGood last (frame_field k) bytes) 5 right (record { there = omega arith; right = tt });
}

-- a frame goes on
pub frame_resumes : (last : TimeStamp) (old more new : List ℕ) → new ≡ old ++ more → AreFrameRight last old 5 → AreFrameRight last new 5
frame_resumes last old more new e right = subst (λ xs. AreFrameRight last xs 5) (sym e) (frame_right-append last old more 5 right)

pub frame_grown : (last : TimeStamp) (old more new : List ℕ) → new ≡ old ++ more → IsFrameBegun last old → frame_size new ≡ frame_size old
frame_grown last old more new e begun = ap frame_size e ∙ ap (λ n. 20 + n) (number_at-append 16 4 old more begun.there)

pub frame_begins : (last : TimeStamp) (old piece new : List ℕ) (n judged : ℕ) → new ≡ old ++ take n piece → IsFramePart last old → (length old ≤ 20 → length new ≤ 20)
    → (20 ≤ length old → n ≡ 0) → 20 ≤ length new → IsFrameJudged last new judged → IsFrameBegun last new
frame_begins last old piece new n judged e part short none there fields = record {
  there = there;
  within = elim (cases_order (length old) 20) [
    | inl same ↦ (let k = short (omega arith) in omega arith)
    | inr (inl less) ↦ (let k = short (omega arith) in omega arith)
    | inr (inr more) ↦ (
        let zero_ : n ≡ 0 = none (omega arith) in
        let stays : new ≡ old = e ∙ ap (λ k. old ++ take k piece) zero_ ∙ append-nil old in
        let h : length old ≤ frame_size old = (let k = frame_short last old part in omega arith) in
        subst (λ xs. length xs ≤ frame_size xs) (sym stays) h
        )
  ];
  right = frame_right last new judged fields there;
}

-- what is wrong in a part of the piece is wrong in all of it
pub frame_wrong_in_piece : (last : TimeStamp) (old piece new : List ℕ) (n offset : ℕ) → new ≡ old ++ take n piece → IsFrameWrongAt last new offset
    → IsFrameWrongAt last (old ++ piece) offset
frame_wrong_in_piece last old piece new n offset e wrong =
    subst (λ xs. IsFrameWrongAt last xs offset) (all_of_piece old piece new n e) (frame_wrong-append last new (drop n piece) offset wrong)

-- what the rest of a piece made of the datagram
pub whole_of_datagram : (last : TimeStamp) (old piece rest mid new : List ℕ) (n count : ℕ) → n ≤ length piece → mid ≡ old ++ take n piece → rest ≡ drop n piece
    → IsFrameWhole last mid rest new count → IsFrameWhole last old piece new (n + count)
whole_of_datagram last old piece rest mid new n count h e f taken = record {
  few = omega (arith, taken.few, ap length f, length-drop n piece);
  held = two_parts old piece mid new n count e (taken.held ∙ ap (λ xs. mid ++ take count xs) f);
  whole = taken.whole;
}

-- an open frame is not whole yet
pub frame_takes_some : (last : TimeStamp) (old piece new : List ℕ) (count : ℕ) → IsFramePart last old → IsFrameWhole last old piece new count → 0 < count
frame_takes_some last old piece new zero part whole =
    let same : new ≡ old = whole.held ∙ append-nil old in
    let short = frame_short last old part in
    let long : length old ≡ frame_size old = subst (λ xs. length xs ≡ frame_size xs) same whole.whole.all in
    absurd (omega arith)
frame_takes_some last old piece new (suc n) part whole = omega arith

-- ---- a frame that stands whole in a piece

-- the fields in front of the datagram, by what their numbers are
pub front_right : (last : TimeStamp) (bytes : List ℕ) → 20 ≤ length bytes → last.seconds ≤ number_at 0 4 bytes → ArePicos last (number_at 0 4 bytes) (number_at 4 8 bytes)
    → number_at 14 2 bytes ≡ 0 → number_at 16 4 bytes ≤ 65535 → AreFrameRight last bytes 5
front_right last bytes there seconds picos clear short zero h =
    record { there = omega arith; right = (let e = number_at-take 0 4 4 bytes (omega arith) in omega arith) }
front_right last bytes there seconds picos clear short (suc zero) h = record {
  there = omega arith;
  right = rw (number_at-take 0 4 12 bytes (omega arith), number_at-take 4 8 12 bytes (omega arith)) picos;
}
front_right last bytes there seconds picos clear short (suc (suc zero)) h = record { there = omega arith; right = tt }
front_right last bytes there seconds picos clear short (suc (suc (suc zero))) h =
    record { there = omega arith; right = number_at-take 14 2 16 bytes (omega arith) ∙ clear }
front_right last bytes there seconds picos clear short (suc (suc (suc (suc zero)))) h =
    record { there = omega arith; right = (let e = number_at-take 16 4 20 bytes (omega arith) in omega arith) }
front_right last bytes there seconds picos clear short (suc (suc (suc (suc (suc i))))) h = absurd (omega arith)

-- and what they are where the fields are right
pub record AreFrontNumbers (last : TimeStamp) (bytes : List ℕ) : Type 0 where
  pub seconds : last.seconds ≤ number_at 0 4 bytes
  pub picos : ArePicos last (number_at 0 4 bytes) (number_at 4 8 bytes)
  pub clear : number_at 14 2 bytes ≡ 0
  pub short : number_at 16 4 bytes ≤ 65535

pub front_told : (last : TimeStamp) (bytes : List ℕ) → AreFrameRight last bytes 5 → AreFrontNumbers last bytes
front_told last bytes right = record {
  seconds = (let e = number_at-take 0 4 4 bytes (omega arith) in omega (arith, (right 0 (omega arith)).right));
  picos = rw (sym (number_at-take 0 4 12 bytes (omega arith)), sym (number_at-take 4 8 12 bytes (omega arith))) (right 1 (omega arith)).right;
  clear = sym (number_at-take 14 2 16 bytes (omega arith)) ∙ (right 3 (omega arith)).right;
  short = (let e = number_at-take 16 4 20 bytes (omega arith) in omega (arith, (right 4 (omega arith)).right));
}

-- they stand in the first 20 bytes
front_of_take : (last : TimeStamp) (bytes : List ℕ) (n : ℕ) → 20 ≤ n → n ≤ length bytes → AreFrameRight last bytes 5 → AreFrameRight last (take n bytes) 5
front_of_take last bytes n from to right zero h =
    record { there = omega (arith, length-take-le n bytes to); right = subst (IsFrameRightIn last Seconds) (sym (take-take 4 n bytes (omega arith))) (right 0 h).right }
front_of_take last bytes n from to right (suc zero) h =
    record { there = omega (arith, length-take-le n bytes to); right = subst (IsFrameRightIn last Picos) (sym (take-take 12 n bytes (omega arith))) (right 1 h).right }
front_of_take last bytes n from to right (suc (suc zero)) h = record { there = omega (arith, length-take-le n bytes to); right = tt }
front_of_take last bytes n from to right (suc (suc (suc zero))) h =
    record { there = omega (arith, length-take-le n bytes to); right = subst (IsFrameRightIn last Zero) (sym (take-take 16 n bytes (omega arith))) (right 3 h).right }
front_of_take last bytes n from to right (suc (suc (suc (suc zero)))) h =
    record { there = omega (arith, length-take-le n bytes to); right = subst (IsFrameRightIn last Length) (sym (take-take 20 n bytes (omega arith))) (right 4 h).right }
front_of_take last bytes n from to right (suc (suc (suc (suc (suc i))))) h = absurd (omega arith)

pub whole_in_front : (last : TimeStamp) (bytes : List ℕ) → AreFrameRight last bytes 5 → frame_size bytes ≤ length bytes → IsWholeFrame last (take (frame_size bytes) bytes)
whole_in_front last bytes right there =
    let n = frame_size bytes in
    datagram_whole last (take n bytes) (front_of_take last bytes n (omega arith) there right)
    (length-take-le n bytes there ∙ ap (λ k. 20 + k) (sym (number_at-take 16 4 n bytes (omega arith))))

-- a front that is a whole frame: its fields are right, and all of it is there
pub record IsWholeInFront (last : TimeStamp) (bytes : List ℕ) : Type 0 where
  pub there : 20 ≤ length bytes
  pub right : AreFrameRight last bytes 5
  pub all : frame_size bytes ≤ length bytes

pub whole_told : (last : TimeStamp) (bytes : List ℕ) (n : ℕ) → n ≤ length bytes → IsWholeFrame last (take n bytes) → IsWholeInFront last bytes
whole_told last bytes n few w =
    let long = length-take-le n bytes few in
    let front : 20 ≤ length (take n bytes) = (w.right 4 (omega arith)).there in
    let size = number_at-take 16 4 n bytes (omega (arith, long, front)) in
    record {
      there = omega (arith, long, front);
      right = subst (λ xs. AreFrameRight last xs 5) (take-append-drop n bytes) (frame_right-append last (take n bytes) (drop n bytes) 5 (λ i h. w.right i (omega arith)));
      all = omega (arith, long, w.all, size);
    }
