-- A reader stands for all bytes that it was given, however they were cut.
use Rattle.std.proofs.Common.{◌≡◌, ℕ, ◌+◌, ◌<◌, ◌≤◌, ◌⊎◌, inl, inr, Bool, true, false, List, [], ◌∷◌, ◌++◌, length, take, drop, Option, Some, None, refl, sym, ap, ◌∙◌, subst, length-append, take_all, arith}
use Rattle.replay_form.specs.HeadFields.{IsHeadWrongAt, IsHeadPart}
use Rattle.replay_form.specs.FrameFields.{Frame, IsFrame, IsWholeFrame, IsFramePart, IsFrameWrongAt, frame_in}
use Rattle.replay_form.specs.Record.{first_stamp, last_stamp, IsCut, IsRecordWrongAt, EndsInside}
use Rattle.replay_form.proofs.RecordLaws.{cut-append, cut-frame, cut-head, nothing_open, record_wrong-append, last_stamp-snoc}
use Rattle.vrt_time.specs.Time.{TimeStamp, stamp_of}
use Rattle.replay_form.specs.Numbers.{number_at}
use Rattle.replay_form.specs.Taking.{IsFrameFound}
use Rattle.replay_form.proofs.FrameLaws.{whole_framed}
use Rattle.replay_form.specs.Reading.{Reading, begun, kept_of, whole_bytes, IsFrameIn, IsBeginning, IsGoing, StandsWith, StandsFor, IsMore, IsHeadRead, IsFrameRead, IsNextReading, IsFailed, IsFresh, IsUnfinished, held_frame, frames_after}
use Rattle.replay_form.specs.declared.event.Event.{Event}
use Rattle.replay_form.specs.declared.event.Event.TheVariants as events
use Rattle.replay_form.specs.declared.event.RecordFault.{RecordFault}

-- a reader without a fault is in front of the header's end, or behind it
pub sound_stands : (reading : Reading) (taken : List ℕ) (frames : List Frame) → reading.fault ≡ None → StandsFor reading taken frames → IsBeginning reading taken frames ⊎ IsGoing reading taken frames
sound_stands reading taken frames sound stands = subst (λ fault. StandsWith fault reading taken frames) sound stands

stands_sound : (reading : Reading) (taken : List ℕ) (frames : List Frame) → reading.fault ≡ None → IsBeginning reading taken frames ⊎ IsGoing reading taken frames → StandsFor reading taken frames
stands_sound reading taken frames sound stands = subst (λ fault. StandsWith fault reading taken frames) (sym sound) stands

more_taken : (taken piece : List ℕ) (count : ℕ) → count ≡ length piece → taken ++ piece ≡ taken ++ take count piece
more_taken taken piece count e = ap (λ xs. taken ++ xs) (sym (take_all count piece (omega arith)))

-- all of a piece was taken
more_stands : (old : Reading) (piece : List ℕ) (count : ℕ) (new : Reading) (taken : List ℕ) (frames : List Frame) → IsMore old piece count new → StandsFor old taken frames
    → StandsFor new (taken ++ take count piece) frames
more_stands old piece count new taken frames step stands =
    let after : Reading = record old { whole = false; held = begun old ++ piece } in
    let cases : IsBeginning after (taken ++ piece) frames ⊎ IsGoing after (taken ++ piece) frames =
    elim (sound_stands old taken frames step.sound stands) [
      | inl b ↦ inl (record {
        started = b.started;
        none = b.none;
        bytes = ap (λ xs. xs ++ piece) b.bytes;
        part = step.head_part b.started;
        start = omega (arith, b.start, length-append (begun old) piece, length-append taken piece);
      })
      | inr g ↦ inr (record {
        started = g.started;
        so_far = record {
          cut = cut-append old.head frames (begun old) taken piece g.so_far.cut;
          part = subst (λ last. IsFramePart last (begun old ++ piece)) g.last (step.frame_part g.started);
        };
        last = g.last;
        start = omega (arith, g.start, length-append (begun old) piece, length-append taken piece);
      })
    ] in
    subst (λ r. StandsFor r (taken ++ take count piece) frames) (sym step.after)
    (subst (λ xs. StandsFor after xs frames) (more_taken taken piece count step.all) (stands_sound after (taken ++ piece) frames step.sound cases))

pub not_both : {X : Type 0} (b : Bool) → b ≡ true → b ≡ false → X
not_both b p q = absurd (cc)

-- the header is whole
head_stands : (old : Reading) (piece : List ℕ) (count : ℕ) (new : Reading) (taken : List ℕ) (frames : List Frame) → IsHeadRead old piece count new → StandsFor old taken frames
    → StandsFor new (taken ++ take count piece) frames
head_stands old piece count new taken frames step stands =
    let bytes = begun old ++ take count piece in
    let after : Reading = record { started = true; head = new.head; last = first_stamp; start = length bytes; whole = false; held = []; fault = None } in
    let same : (b : IsBeginning old taken frames) → taken ++ take count piece ≡ bytes = λ b. ap (λ xs. xs ++ take count piece) b.bytes in
    let cases : IsGoing after (taken ++ take count piece) frames =
    elim (sound_stands old taken frames step.sound stands) [
      | inl b ↦ subst (λ fs. IsGoing after (taken ++ take count piece) fs) (sym b.none) (record {
        started = refl;
        so_far = record {
          cut = subst (λ xs. IsCut new.head [] [] xs) (sym (same b)) (cut-head new.head bytes step.says);
          part = nothing_open first_stamp;
        };
        last = refl;
        start = omega (arith, ap length (same b));
      })
      | inr g ↦ not_both old.started g.started step.first
    ] in
    subst (λ r. StandsFor r (taken ++ take count piece) frames) (sym step.after) (inr cases)

-- what was held and what was taken are the frame
pub kept_whole : (old taken : List ℕ) → whole_bytes (kept_of old taken) taken ≡ old ++ taken
kept_whole [] taken = refl
kept_whole (byte ∷ old) taken = refl

-- the bytes of a frame that was found, and what the reader knows with it
pub found_bytes : (last : TimeStamp) (old piece new : List ℕ) (count : ℕ) (bytes : List ℕ) → IsFrameFound last old piece new count
    → bytes ≡ whole_bytes new (take count piece) → bytes ≡ old ++ take count piece
found_bytes last old piece new count bytes found is = is ∙ ap (λ held. whole_bytes held (take count piece)) found.held ∙ kept_whole old (take count piece)

pub frame_found : (old : Reading) (piece : List ℕ) (count : ℕ) (held bytes : List ℕ) (stamp : TimeStamp) → old.fault ≡ None → old.started ≡ true → old.whole ≡ false
    → IsFrameFound old.last old.held piece held count → bytes ≡ old.held ++ take count piece → stamp ≡ stamp_of (number_at 0 4 bytes) (number_at 4 8 bytes)
    → IsFrameRead old piece count (record old { last = stamp; start = old.start + length bytes; whole = true; held = held })
frame_found old piece count held bytes stamp sound later idle found is stamped =
    let front = take count piece in
    let same : old.held ≡ begun old = rw idle refl in
    let all : bytes ≡ begun old ++ front = is ∙ ap (λ b. b ++ front) same in
    record {
      sound = sound;
      few = found.few;
      later = later;
      whole = subst (λ b. IsWholeFrame old.last (b ++ front)) same found.whole;
      after = ap (λ (s : TimeStamp). record old { last = s; start = old.start + length bytes; whole = true; held = held }) (stamped ∙ ap (λ b. (frame_in b).stamp) all)
          ∙ ap (λ b. record old { last = (frame_in (begun old ++ front)).stamp; start = old.start + length b; whole = true; held = held }) all
          ∙ ap (λ h. record old { last = (frame_in (begun old ++ front)).stamp; start = old.start + length (begun old ++ front); whole = true; held = h })
          (found.held ∙ ap (λ b. kept_of b front) same);
    }

-- a frame is whole
frame_stands : (old : Reading) (piece : List ℕ) (count : ℕ) (new : Reading) (taken : List ℕ) (frames : List Frame) → IsFrameRead old piece count new → StandsFor old taken frames
    → StandsFor new (taken ++ take count piece) (frames ++ held_frame new (take count piece) ∷ [])
frame_stands old piece count new taken frames step stands =
    let bytes = begun old ++ take count piece in
    let frame = frame_in bytes in
    let kept = kept_of (begun old) (take count piece) in
    let after : Reading = record old { last = frame.stamp; start = old.start + length bytes; whole = true; held = kept } in
    let same : held_frame after (take count piece) ≡ frame =
    ap (λ bs. record { stamp = frame.stamp; port = number_at 12 2 bs; datagram = drop 20 bs }) (kept_whole (begun old) (take count piece)) in
    let cases : IsGoing after (taken ++ take count piece) (frames ++ frame ∷ []) =
    elim (sound_stands old taken frames step.sound stands) [
      | inl b ↦ not_both old.started step.later b.started
      | inr g ↦ record {
        started = g.started;
        so_far = record {
          cut = cut-frame old.head frames frame bytes (taken ++ take count piece) (cut-append old.head frames (begun old) taken (take count piece) g.so_far.cut)
              (subst (λ last. IsFrame last frame bytes) g.last (record { whole = step.whole; told = refl }));
          part = nothing_open (last_stamp first_stamp (frames ++ frame ∷ []));
        };
        last = sym (last_stamp-snoc first_stamp frames frame);
        start = omega (arith, g.start, length-append (begun old) (take count piece), length-append taken (take count piece));
      }
    ] in
    subst (λ r. StandsFor r (taken ++ take count piece) (frames ++ held_frame r (take count piece) ∷ [])) (sym step.after)
    (subst (λ f. StandsFor after (taken ++ take count piece) (frames ++ f ∷ [])) (sym same)
    (stands_sound after (taken ++ take count piece) (frames ++ frame ∷ []) step.sound (inr cases)))

-- each call adds its bytes, and its frame
pub step_stands : (old : Reading) (piece : List ℕ) (count : ℕ) (event : Event) (new : Reading) (taken : List ℕ) (frames : List Frame) → IsNextReading old piece count event new
    → StandsFor old taken frames → StandsFor new (taken ++ take count piece) (frames_after event frames new (take count piece))
step_stands old piece count events.More new taken frames step stands = more_stands old piece count new taken frames step stands
step_stands old piece count events.Head new taken frames step stands = head_stands old piece count new taken frames step stands
step_stands old piece count events.Frame new taken frames step stands = frame_stands old piece count new taken frames step stands

-- where a frame is whole, it stands in the bytes taken, or in those held
frame_lies : (old : Reading) (piece : List ℕ) (count : ℕ) (new : Reading) → IsFrameRead old piece count new → IsFrameIn new (take count piece)
frame_lies old piece count new step =
    let front = take count piece in
    let bytes = begun old ++ front in
    let stamp = (frame_in bytes).stamp in
    subst (λ r. IsFrameIn r front) (sym step.after)
    (subst (λ bs. IsFrame first_stamp (record { stamp = stamp; port = number_at 12 2 bs; datagram = drop 20 bs }) bs) (sym (kept_whole (begun old) front))
    (whole_framed old.last bytes stamp step.whole refl))

pub step_lies : (old : Reading) (piece : List ℕ) (count : ℕ) (event : Event) (new : Reading) → IsNextReading old piece count event new → new.whole ≡ true
    → IsFrameIn new (take count piece)
step_lies old piece count events.More new step whole = not_both new.whole whole (ap (λ (r : Reading). r.whole) step.after)
step_lies old piece count events.Head new step whole = not_both new.whole whole (ap (λ (r : Reading). r.whole) step.after)
step_lies old piece count events.Frame new step whole = frame_lies old piece count new step

-- a fault is that of all bytes
failed : (fault : Option RecordFault) (old : Reading) (piece : List ℕ) (offset : ℕ) (new : Reading) (taken : List ℕ) (frames : List Frame) → old.fault ≡ fault
    → IsFailed fault old piece offset new → StandsWith fault old taken frames → StandsFor new (taken ++ piece) frames
failed (Some fault) old piece offset new taken frames was fails stands =
    subst (λ r. StandsFor r (taken ++ piece) frames) (sym fails.1)
    (subst (λ f. StandsWith f old (taken ++ piece) frames) (sym was) (record_wrong-append frames taken piece fault.offset stands))
failed None old piece offset new taken frames was fails stands =
    let wrong : IsRecordWrongAt frames (taken ++ piece) offset =
    elim stands [
      | inl b ↦ inl (b.none, subst (λ xs. IsHeadWrongAt xs offset) (ap (λ xs. xs ++ piece) (sym b.bytes)) (fails.in_head b.started))
      | inr g ↦ (
          let f = fails.in_frame g.started in
          inr (record {
            head = old.head;
            rest = begun old ++ piece;
            cut = cut-append old.head frames (begun old) taken piece g.so_far.cut;
            place = f.0;
            frame = subst (λ last. IsFrameWrongAt last (begun old ++ piece) f.0) g.last f.1.0;
            told = omega (arith, f.1.1, g.start, length-append (begun old) piece, length-append taken piece);
          })
          )
    ] in
    subst (λ f. StandsWith f new (taken ++ piece) frames) (sym fails.fault) wrong

pub failed_stands : (old : Reading) (piece : List ℕ) (offset : ℕ) (new : Reading) (taken : List ℕ) (frames : List Frame) → IsFailed old.fault old piece offset new
    → StandsFor old taken frames → StandsFor new (taken ++ piece) frames
failed_stands old piece offset new taken frames fails stands = failed old.fault old piece offset new taken frames refl fails stands

-- a fresh reader stands for no bytes
pub fresh_stands : (reading : Reading) → IsFresh reading → StandsFor reading [] []
fresh_stands reading fresh =
    let none : begun reading ≡ [] = rw (fresh.whole, fresh.held) refl in
    stands_sound reading [] [] fresh.fault (inl (record {
      started = fresh.started;
      none = refl;
      bytes = sym none;
      part = subst IsHeadPart (sym none) (0, record { among = omega arith; before = λ i h. absurd (omega arith); missing = omega arith });
      start = omega (arith, ap length none, fresh.start);
    }))

-- or they end inside the header or a frame
pub ends_early : (reading : Reading) (taken : List ℕ) (frames : List Frame) (offset : ℕ) → IsUnfinished None reading offset
    → IsBeginning reading taken frames ⊎ IsGoing reading taken frames → EndsInside taken × (offset ≡ length taken)
ends_early reading taken frames offset ends (inl b) = (inl (subst IsHeadPart (sym b.bytes) b.part), omega (arith, ends.0, b.start))
ends_early reading taken frames offset ends (inr g) =
    let some : 0 < length (begun reading) = elim ends.1 [ inl unstarted ↦ not_both reading.started g.started unstarted | inr h ↦ h ] in
    (inr (reading.head, (frames, (begun reading, (some, g.so_far)))), omega (arith, ends.0, g.start))

unfinished : (fault : Option RecordFault) (reading : Reading) (taken : List ℕ) (frames : List Frame) (offset : ℕ) → IsUnfinished fault reading offset
    → StandsWith fault reading taken frames → IsRecordWrongAt frames taken offset ⊎ (EndsInside taken × (offset ≡ length taken))
unfinished (Some fault) reading taken frames offset ends stands = inl (subst (IsRecordWrongAt frames taken) (sym ends) stands)
unfinished None reading taken frames offset ends stands = inr (ends_early reading taken frames offset ends stands)

-- without a fault, the number of all bytes is known
pub stands_size : (reading : Reading) (taken : List ℕ) (frames : List Frame) → reading.fault ≡ None → StandsFor reading taken frames
    → reading.start + length (begun reading) ≡ length taken
stands_size reading taken frames sound stands = elim (sound_stands reading taken frames sound stands) [ inl b ↦ b.start | inr g ↦ g.start ]

-- a call that gives an event leaves no fault
pub step_sound : (old : Reading) (piece : List ℕ) (count : ℕ) (event : Event) (new : Reading) → IsNextReading old piece count event new → new.fault ≡ None
step_sound old piece count events.More new step = ap (λ (r : Reading). r.fault) step.after ∙ step.sound
step_sound old piece count events.Head new step = ap (λ (r : Reading). r.fault) step.after
step_sound old piece count events.Frame new step = ap (λ (r : Reading). r.fault) step.after ∙ step.sound

-- and takes no more bytes than there are
pub step_few : (old : Reading) (piece : List ℕ) (count : ℕ) (event : Event) (new : Reading) → IsNextReading old piece count event new → count ≤ length piece
step_few old piece count events.More new step = (let e = step.all in omega arith)
step_few old piece count events.Head new step = step.few
step_few old piece count events.Frame new step = step.few
