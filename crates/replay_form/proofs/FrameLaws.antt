-- What the rules of the fields say of a whole frame's numbers.
use Rattle.std.proofs.Common.{◌≡◌, ℕ, suc, zero, ◌+◌, ◌<◌, ◌≤◌, ◌^◌, List, length, drop, ap, ◌∙◌, arith}
use Rattle.std.proofs.lemmas.List.{length-drop}
use Rattle.vrt_time.specs.Time.{TimeStamp, stamp_of}
use Rattle.replay_form.specs.Numbers.{number_at}
use Rattle.replay_form.proofs.NumberLaws.{number_at-take}
use Rattle.replay_form.specs.FrameFields.{IsFrame, IsFrameGood, IsWholeFrame, frame_field}
use Rattle.replay_form.specs.Record.{first_stamp}

-- the stamp is one, not before the last, and the datagram has at most 65,535 bytes
pub record FrameRanges (last : TimeStamp) (bytes : List ℕ) : Type 0 where
  pub picos : number_at 4 8 bytes < 10 ^ 12
  pub seconds : last.seconds ≤ number_at 0 4 bytes
  pub rising : number_at 0 4 bytes ≡ last.seconds → last.picos ≤ number_at 4 8 bytes
  pub size : length bytes ≤ 65555
  pub datagram : length bytes ≡ 20 + length (drop 20 bytes)

pub frame_ranges : (last : TimeStamp) (bytes : List ℕ) → IsWholeFrame last bytes → FrameRanges last bytes
frame_ranges last bytes whole =
    let seconds = (whole.right 0 (omega arith)).right in
    let picos = (whole.right 1 (omega arith)).right in
    let size = (whole.right 4 (omega arith)).right in
    let s4 = number_at-take 0 4 4 bytes (omega arith) in
    let s12 = number_at-take 0 4 12 bytes (omega arith) in
    let p12 = number_at-take 4 8 12 bytes (omega arith) in
    let n20 = number_at-take 16 4 20 bytes (omega arith) in
    let below = picos.below in record {
      picos = omega arith;
      seconds = omega arith;
      rising = λ e. let r = picos.rising (s12 ∙ e) in omega arith;
      size = omega (arith, whole.all);
      datagram = omega (arith, whole.all, length-drop 20 bytes);
    }

-- a frame is one behind any that is not later, so behind none, too
good_first : (last : TimeStamp) (bytes : List ℕ) (i : ℕ) → i < 6 → IsFrameGood last (frame_field i) bytes → IsFrameGood first_stamp (frame_field i) bytes
good_first last bytes zero h g = record { there = g.there; right = omega arith }
good_first last bytes (suc zero) h g = record { there = g.there; right = record { below = g.right.below; rising = λ e. omega arith } }
good_first last bytes (suc (suc zero)) h g = record { there = g.there; right = tt }
good_first last bytes (suc (suc (suc zero))) h g = record { there = g.there; right = g.right }
good_first last bytes (suc (suc (suc (suc zero)))) h g = record { there = g.there; right = g.right }
good_first last bytes (suc (suc (suc (suc (suc zero))))) h g = record { there = g.there; right = tt }
good_first last bytes (suc (suc (suc (suc (suc (suc i)))))) h g = absurd (omega arith)

pub whole_first : (last : TimeStamp) (bytes : List ℕ) → IsWholeFrame last bytes → IsWholeFrame first_stamp bytes
whole_first last bytes whole = record { all = whole.all; right = λ i h. good_first last bytes i h (whole.right i h) }

-- the frame that is held
pub whole_framed : (last : TimeStamp) (bytes : List ℕ) (stamp : TimeStamp) → IsWholeFrame last bytes → stamp ≡ stamp_of (number_at 0 4 bytes) (number_at 4 8 bytes)
    → IsFrame first_stamp (record { stamp = stamp; port = number_at 12 2 bytes; datagram = drop 20 bytes }) bytes
whole_framed last bytes stamp whole is = record {
  whole = whole_first last bytes whole;
  told = ap (λ (s : TimeStamp). record { stamp = s; port = number_at 12 2 bytes; datagram = drop 20 bytes }) is;
}
