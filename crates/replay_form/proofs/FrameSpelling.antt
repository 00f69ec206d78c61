-- The bytes of a frame are one list, which is a frame.
use Rattle.vrt_words.proofs.WordLaws.{same_later}
use borrow.Rule.Slice.PartMut.{put_mid}
use Rattle.std.proofs.Common.{◌≡◌, ℕ, zero, suc, ◌+◌, ◌-◌, ◌<◌, ◌≤◌, ◌^◌, List, ◌++◌, length, take, drop, refl, sym, ap, ◌∙◌, append_assoc, length-append, take-append-drop, lit<, arith}
use Rattle.std.proofs.lemmas.List.{take_at, drop_at, drop-drop, length-take-le, length-drop}
use Rattle.byteorder.specs.Endian.{big_bytes}
use Rattle.byteorder.specs.Numbers.{length-bytes_high_first}
use Rattle.vrt_time.specs.Time.{TimeStamp, IsStamp, moment_of}
use Rattle.vrt_words.specs.Words.{AreBytes}
use Rattle.replay_form.specs.Numbers.{number_at}
use Rattle.replay_form.proofs.NumberLaws.{number_at-take}
use Rattle.replay_form.specs.FrameFields.{Frame, IsFrame, AreFrameRight, frame_in}
use Rattle.replay_form.specs.FrameSpelling.{IsFrameHead}
use Rattle.replay_form.proofs.Putting.{number_here, number_next, number_fits}

-- the numbers one after another, and the datagram
abbrev pub frame_bytes : Frame → List ℕ
frame_bytes frame =
    big_bytes 4 frame.stamp.seconds ++ (big_bytes 8 frame.stamp.picos ++ (big_bytes 2 frame.port ++ (big_bytes 2 0 ++ (big_bytes 4 (length frame.datagram) ++ frame.datagram))))

frame_of : TimeStamp → ℕ → List ℕ → Frame
frame_of stamp port datagram = record { stamp = stamp; port = port; datagram = datagram }

stamp_with : ℕ → ℕ → TimeStamp
stamp_with seconds picos = record { seconds = seconds; picos = picos }

-- the numbers in the bytes of a frame
pub frame_head : (frame : Frame) → IsStamp frame.stamp → frame.port < 2 ^ 16 → length frame.datagram ≤ 65535 → AreBytes frame.datagram
    → IsFrameHead frame.stamp frame.port (length frame.datagram) (frame_bytes frame)
frame_head frame stamp port size fit =
    let d = frame.datagram in
    let e = big_bytes 4 (length d) ++ d in
    let z = big_bytes 2 0 ++ e in
    let p = big_bytes 2 frame.port ++ z in
    let q = big_bytes 8 frame.stamp.picos ++ p in record {
      fit = number_fits 4 frame.stamp.seconds q (number_fits 8 frame.stamp.picos p (number_fits 2 frame.port z (number_fits 2 0 e (number_fits 4 (length d) d fit))));
      there = omega (
        arith,
        length-append (big_bytes 4 frame.stamp.seconds) q,
        length-append (big_bytes 8 frame.stamp.picos) p,
        length-append (big_bytes 2 frame.port) z,
        length-append (big_bytes 2 0) e,
        length-append (big_bytes 4 (length d)) d,
        length-bytes_high_first 4 frame.stamp.seconds,
        length-bytes_high_first 8 frame.stamp.picos,
        length-bytes_high_first 2 frame.port,
        length-bytes_high_first 2 0,
        length-bytes_high_first 4 (length d),
      );
      seconds = sym (number_here 4 frame.stamp.seconds q (omega (arith, stamp.seconds_fit)));
      picos = sym (number_next 4 frame.stamp.seconds 0 8 q ∙ number_here 8 frame.stamp.picos p (omega (arith, stamp.picos_below)));
      port_told = sym (number_next 4 frame.stamp.seconds 8 2 q ∙ number_next 8 frame.stamp.picos 0 2 p ∙ number_here 2 frame.port z (omega arith));
      zero = sym (number_next 4 frame.stamp.seconds 10 2 q ∙ number_next 8 frame.stamp.picos 2 2 p ∙ number_next 2 frame.port 0 2 z ∙ number_here 2 0 e (lit< tt));
      size_told = sym (number_next 4 frame.stamp.seconds 12 4 q ∙ number_next 8 frame.stamp.picos 4 4 p ∙ number_next 2 frame.port 2 4 z ∙ number_next 2 0 0 4 e
          ∙ number_here 4 (length d) d (omega arith));
    }

-- twenty bytes, and the datagram
pub frame_parts : (frame : Frame) → (length (frame_bytes frame) ≡ 20 + length frame.datagram) × (drop 20 (frame_bytes frame) ≡ frame.datagram)
frame_parts frame = (omega arith, refl)

-- such bytes are right
pub right_head : (last stamp : TimeStamp) (port size : ℕ) (bytes : List ℕ) → IsFrameHead stamp port size bytes → stamp.picos < 10 ^ 12 → size ≤ 65535
    → length bytes ≡ 20 + size → moment_of last ≤ moment_of stamp → AreFrameRight last bytes 6
right_head last stamp port size bytes h below most all later zero k =
    let e = number_at-take 0 4 4 bytes (omega arith) in
    let s = h.seconds in
    record { there = omega arith; right = omega arith }
right_head last stamp port size bytes h below most all later (suc zero) k =
    let e = number_at-take 0 4 12 bytes (omega arith) in
    let f = number_at-take 4 8 12 bytes (omega arith) in
    let s = h.seconds in
    let p = h.picos in
    record { there = omega arith; right = record { below = omega arith; rising = λ g. omega arith } }
right_head last stamp port size bytes h below most all later (suc (suc zero)) k = record { there = omega arith; right = tt }
right_head last stamp port size bytes h below most all later (suc (suc (suc zero))) k =
    record { there = omega arith; right = number_at-take 14 2 16 bytes (omega arith) ∙ sym h.zero }
right_head last stamp port size bytes h below most all later (suc (suc (suc (suc zero)))) k =
    let e = number_at-take 16 4 20 bytes (omega arith) in
    let s = h.size_told in
    record { there = omega arith; right = omega arith }
right_head last stamp port size bytes h below most all later (suc (suc (suc (suc (suc zero))))) k =
    let s = h.size_told in
    record { there = omega arith; right = tt }
right_head last stamp port size bytes h below most all later (suc (suc (suc (suc (suc (suc i)))))) k = absurd (omega arith)

told_by : (stamp : TimeStamp) (port : ℕ) (datagram bytes : List ℕ) → stamp.seconds ≡ number_at 0 4 bytes → stamp.picos ≡ number_at 4 8 bytes → port ≡ number_at 12 2 bytes
    → datagram ≡ drop 20 bytes → frame_of stamp port datagram ≡ frame_in bytes
unfolding frame_of stamp_with
told_by stamp port datagram bytes s p q d =
    let same : stamp_with stamp.seconds stamp.picos ≡ stamp_with (number_at 0 4 bytes) (number_at 4 8 bytes) = cc in
    ap (λ t. frame_of t port datagram) same ∙ ap (λ n. frame_of (frame_in bytes).stamp n datagram) q ∙ ap (frame_of (frame_in bytes).stamp (number_at 12 2 bytes)) d

-- the bytes of a frame are one
pub frame_spelled : (last : TimeStamp) (frame : Frame) → IsStamp frame.stamp → frame.port < 2 ^ 16 → length frame.datagram ≤ 65535 → AreBytes frame.datagram
    → moment_of last ≤ moment_of frame.stamp → IsFrame last frame (frame_bytes frame)
unfolding frame_of
frame_spelled last frame stamp port size fit later =
    let bytes = frame_bytes frame in
    let parts = frame_parts frame in
    let h = frame_head frame stamp port size fit in record {
      whole = record {
        all = (let s = h.size_told in omega (arith, parts.0));
        right = right_head last frame.stamp frame.port (length frame.datagram) bytes h stamp.picos_below size parts.0 later;
      };
      told = told_by frame.stamp frame.port frame.datagram bytes h.seconds h.picos h.port_told (sym parts.1);
    }

-- and a frame's bytes begin with its numbers
pub spelled_head : (last : TimeStamp) (frame : Frame) (bytes : List ℕ) → AreBytes bytes → IsFrame last frame bytes
    → IsFrameHead frame.stamp frame.port (length frame.datagram) bytes
spelled_head last frame bytes fit is =
    let zero_ = (is.whole.right 3 (omega arith)).right in record {
      fit = fit;
      there = omega (arith, is.whole.all);
      seconds = ap (λ (f : Frame). f.stamp.seconds) is.told;
      picos = ap (λ (f : Frame). f.stamp.picos) is.told;
      port_told = ap (λ (f : Frame). f.port) is.told;
      zero = sym zero_ ∙ number_at-take 14 2 16 bytes (omega arith);
      size_told = ap (λ (f : Frame). length f.datagram) is.told ∙ length-drop 20 bytes ∙ omega (arith, is.whole.all);
    }

-- twenty bytes that agree, and then the datagram
pub written : (n : ℕ) (datagram mid self spelled : List ℕ) → n ≡ length datagram → self ≡ datagram → 20 + n ≤ length mid → take 20 mid ≡ take 20 spelled → drop 20 spelled ≡ datagram
    → take (20 + n) (put_mid 20 (20 + n - 20) mid self) ≡ spelled
written n datagram mid self spelled count after room same behind =
    let rest = drop (20 + n - 20) (drop 20 mid) in
    let front : length (take 20 mid ++ self) ≡ 20 + n = omega (arith, length-append (take 20 mid) self, length-take-le 20 mid (omega arith), ap length after) in
    ap (take (20 + n)) (sym (append_assoc (take 20 mid) self rest)) ∙ take_at (take 20 mid ++ self) rest (20 + n) front
    ∙ ap (λ xs. xs ++ self) same ∙ ap (λ xs. take 20 spelled ++ xs) (after ∙ sym behind) ∙ take-append-drop 20 spelled

pub behind_frame : (n : ℕ) (mid self old : List ℕ) → n ≡ length self → 20 + n ≤ length mid → drop 20 mid ≡ drop 20 old
    → drop (20 + n) (put_mid 20 (20 + n - 20) mid self) ≡ drop (20 + n) old
behind_frame n mid self old count room same =
    let rest = drop (20 + n - 20) (drop 20 mid) in
    let front : length (take 20 mid ++ self) ≡ 20 + n = omega (arith, length-append (take 20 mid) self, length-take-le 20 mid (omega arith)) in
    let e : 20 + n - 20 ≡ n = omega arith in
    ap (drop (20 + n)) (sym (append_assoc (take 20 mid) self rest)) ∙ drop_at (take 20 mid ++ self) rest (20 + n) front
    ∙ ap (λ k. drop k (drop 20 mid)) e ∙ drop-drop n 20 mid ∙ same_later 20 (20 + n) mid old (omega arith) same
