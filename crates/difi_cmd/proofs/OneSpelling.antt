-- A header in form 2 has one spelling, and so has a frame.
use Rattle.std.proofs.Common.{◌≡◌, ℕ, zero, suc, ◌+◌, ◌*◌, ◌≤◌, ◌==◌, true, List, [], ◌++◌, length, take, drop, slice_index, refl, sym, ap, ◌∙◌, subst, take-add, take-append-drop, take_all, arith}
use Rattle.std.specs.Prelude.{pos}
use Rattle.vrt_words.specs.Words.{AreBytes}
use Rattle.vrt_time.specs.Time.{TimeStamp}
use Rattle.replay_form.specs.Numbers.{number_at, AreNumbers}
use Rattle.replay_form.specs.FrameFields.{Frame, IsFrame}
use Rattle.replay_form.specs.FrameSpelling.{IsFrameHead}
use Rattle.replay_form.specs.Head.{IsHead}
use Rattle.replay_form.specs.HeadSpelling.{IsHeadStart, AreLimitsSpelled, AreRoutesSpelled, identity_words, size_of_head}
use Rattle.replay_form.specs.declared.record_head.RecordHead.{RecordHead}
use Rattle.replay_form.proofs.Putting.{bytes_there}
use Rattle.replay_form.proofs.FrameSpelling.{spelled_head}
use Rattle.replay_form.proofs.HeadSpellingLaws.{head_start, head_form, identity_spelled, limits_spelled, routes_spelled, size_told}

module _ (xs ys : List ℕ) (p : AreBytes xs) (q : AreBytes ys) where
  -- up to an offset they are the same
  abbrev Same : ℕ → Type 0
  Same offset = take offset xs ≡ take offset ys

  -- and so they are up to the end of a number that both have there
  next : (offset width end n : ℕ) → offset + width ≡ end → end ≤ length xs → end ≤ length ys → n ≡ number_at offset width xs → n ≡ number_at offset width ys → Same offset → Same end
  next offset width end n is h k e f same =
      subst Same is
      (take-add offset width xs
      ∙ ap (λ l. l ++ take width (drop offset xs)) same
      ∙ ap (λ l. take offset ys ++ l) (sym (bytes_there offset width n xs p (omega arith) e) ∙ bytes_there offset width n ys q (omega arith) f)
      ∙ sym (take-add offset width ys))

  words_same : (words : List ℕ) (offset count k : ℕ) → k ≤ count → offset + 4 * count ≤ length xs → offset + 4 * count ≤ length ys → AreNumbers words offset count xs
      → AreNumbers words offset count ys → Same offset → Same (offset + 4 * k)
  words_same words offset count zero few h k a b same = subst Same (none offset) same where
    none : (n : ℕ) → n ≡ n + 4 * 0
    none n = omega arith
  words_same words offset count (suc i) few h k a b same =
      next (offset + 4 * i) 4 (offset + 4 * suc i) (slice_index words i) (omega arith) (omega arith) (omega arith) (a.each i (omega arith)) (b.each i (omega arith))
      (words_same words offset count i (omega arith) h k a b same)

  start_same : (head : RecordHead) → IsHeadStart head xs → IsHeadStart head ys → Same 44
  start_same head a b =
      let h = a.there in
      let k = b.there in
      next 40 4 44 _ refl (omega arith) (omega arith) a.identity_told b.identity_told
      (next 36 4 40 _ refl (omega arith) (omega arith) a.routes_told b.routes_told
      (next 32 4 36 _ refl (omega arith) (omega arith) a.pending b.pending
      (next 28 4 32 _ refl (omega arith) (omega arith) a.kept b.kept
      (next 24 4 28 _ refl (omega arith) (omega arith) a.context_window b.context_window
      (next 20 4 24 _ refl (omega arith) (omega arith) a.data_window b.data_window
      (next 16 4 20 _ refl (omega arith) (omega arith) a.max_words b.max_words
      (next 12 4 16 _ refl (omega arith) (omega arith) a.tsi b.tsi
      (next 8 4 12 _ refl (omega arith) (omega arith) a.cid b.cid
      (next 0 8 8 _ refl (omega arith) (omega arith) a.magic b.magic refl)))))))))

  limits_same : (head : RecordHead) (k : ℕ) → k ≤ 7 → AreLimitsSpelled head.bounds xs → AreLimitsSpelled head.bounds ys → Same 136 → Same (136 + 28 * k)
  limits_same head zero few a b same = same
  limits_same head (suc k) few a b same =
      let s = a k (record { settable = true; step = 0; least = pos 0; greatest = pos 0 }) (omega arith) in
      let t = b k (record { settable = true; step = 0; least = pos 0; greatest = pos 0 }) (omega arith) in
      let h = s.there in
      let l = t.there in
      next (156 + 28 * k) 8 (136 + 28 * suc k) _ (omega arith) (omega arith) (omega arith) s.greatest_told t.greatest_told
      (next (148 + 28 * k) 8 (156 + 28 * k) _ (omega arith) (omega arith) (omega arith) s.least_told t.least_told
      (next (140 + 28 * k) 8 (148 + 28 * k) _ (omega arith) (omega arith) (omega arith) s.step_told t.step_told
      (next (136 + 28 * k) 4 (140 + 28 * k) _ (omega arith) (omega arith) (omega arith) s.flag t.flag
      (limits_same head k (omega arith) a b same))))

  routes_same : (head : RecordHead) (k : ℕ) → k ≤ length head.routes → AreRoutesSpelled true head.routes xs → AreRoutesSpelled true head.routes ys → Same 332 → Same (332 + 16 * k)
  routes_same head zero few a b same = same
  routes_same head (suc k) few a b same =
      let s = a k (record { stream = 0; ports = []; number = 0 }) (omega arith) in
      let t = b k (record { stream = 0; ports = []; number = 0 }) (omega arith) in
      let h = s.there in
      let l = t.there in
      let at = 332 + 16 * k in
      next (at + 14) 2 (332 + 16 * suc k) _ (omega arith) (omega arith) (omega arith) s.zero t.zero
      (next (at + 12) 2 (at + 14) _ (omega arith) (omega arith) (omega arith) s.port3 t.port3
      (next (at + 10) 2 (at + 12) _ (omega arith) (omega arith) (omega arith) s.port2 t.port2
      (next (at + 8) 2 (at + 10) _ (omega arith) (omega arith) (omega arith) s.port1 t.port1
      (next (at + 6) 2 (at + 8) _ (omega arith) (omega arith) (omega arith) s.port0 t.port0
      (next (at + 4) 2 (at + 6) _ (omega arith) (omega arith) (omega arith) s.number t.number
      (next at 4 (at + 4) _ (omega arith) (omega arith) (omega arith) s.stream t.stream
      (routes_same head k (omega arith) a b same)))))))

  front_same : (stamp : TimeStamp) (port size : ℕ) → IsFrameHead stamp port size xs → IsFrameHead stamp port size ys → Same 20
  front_same stamp port size a b =
      let h = a.there in
      let k = b.there in
      next 16 4 20 _ refl (omega arith) (omega arith) a.size_told b.size_told
      (next 14 2 16 _ refl (omega arith) (omega arith) a.zero b.zero
      (next 12 2 14 _ refl (omega arith) (omega arith) a.port_told b.port_told
      (next 4 8 12 _ refl (omega arith) (omega arith) a.picos b.picos
      (next 0 4 4 _ refl (omega arith) (omega arith) a.seconds b.seconds refl))))

  pub one_frame : (last other : TimeStamp) (frame : Frame) → IsFrame last frame xs → IsFrame other frame ys → xs ≡ ys
  one_frame last other frame a b =
      let front = front_same frame.stamp frame.port (length frame.datagram) (spelled_head last frame xs p a) (spelled_head other frame ys q b) in
      let back : drop 20 xs ≡ drop 20 ys = sym (ap (λ (f : Frame). f.datagram) a.told) ∙ ap (λ (f : Frame). f.datagram) b.told in
      sym (take-append-drop 20 xs) ∙ ap (λ l. l ++ drop 20 xs) front ∙ ap (λ l. take 20 ys ++ l) back ∙ take-append-drop 20 ys

  fixed_same : (head : RecordHead) → IsHead head xs → IsHead head ys → Same 332
  fixed_same head a b =
      let start = head_start head xs p a in
      let begun = head_start head ys q b in
      let h = start.there in
      let k = begun.there in
      let to_44 = start_same head start begun in
      let to_60 = words_same (identity_words head.identity) 44 4 4 (omega arith) (omega arith) (omega arith) (identity_spelled head.identity xs a.whole a.identity)
      (identity_spelled head.identity ys b.whole b.identity) to_44 in
      let to_136 = words_same head.initial 60 19 19 (omega arith) (omega arith) (omega arith) a.initial b.initial to_60 in
      limits_same head 7 (omega arith) (limits_spelled head xs p a) (limits_spelled head ys q b) to_136

  second_told : (head : RecordHead) (bytes : List ℕ) → AreBytes bytes → IsHead head bytes → head.form ≡ 2 → AreRoutesSpelled true head.routes bytes
  second_told head bytes fit is form =
      let second = sym (head_form head bytes is) ∙ ap (λ n. n == 2) form in
      subst (λ s. AreRoutesSpelled s head.routes bytes) second (routes_spelled head bytes fit is)

  size_is : (head : RecordHead) (bytes : List ℕ) → IsHead head bytes → head.form ≡ 2 → length bytes ≡ 332 + 16 * length head.routes
  size_is head bytes is form = sym (size_told head bytes is) ∙ ap (λ n. size_of_head (record head { form = n })) form

  pub one_header : (head : RecordHead) → head.form ≡ 2 → IsHead head xs → IsHead head ys → xs ≡ ys
  one_header head form a b =
      let size = size_is head xs a form in
      let same_size = size_is head ys b form in
      let n = 332 + 16 * length head.routes in
      let all = routes_same head (length head.routes) (omega arith) (second_told head xs p a form) (second_told head ys q b form) (fixed_same head a b) in
      sym (take_all n xs (omega arith)) ∙ all ∙ take_all n ys (omega arith)
