-- The reader of a record is an intake.
use Rattle.std.proofs.Common.{◌≡◌, ℕ, ◌+◌, ◌<◌, length, drop, inl, inr, Bool, true, false, List, ◌++◌, take, Option, Some, None, refl, sym, ap, ◌∙◌, subst, take_all, arith}
use Rattle.std.specs.Prelude.{if◌then◌else◌}
use Rattle.std.proofs.lemmas.List.{length-drop}
use Rattle.replay_form.specs.FrameFields.{Frame, IsFrameWrongAt}
use Rattle.replay_form.specs.HeadFields.{IsHeadPart, IsHeadWrongAt}
use Rattle.replay_form.specs.Head.{IsHead}
use Rattle.replay_form.specs.Reading.{Reading, begun, whole_bytes, held_frame, frames_after, StandsWith, StandsFor, IsNextReading, IsFailed, IsNewFault}
use Rattle.replay_form.specs.Reading.{IsFrameRead as IsReaderFrame}
use Rattle.replay_form.specs.Record.{IsRecordWrongAt}
use Rattle.replay_form.specs.Verdict.{HasNoFault}
use Rattle.replay_form.specs.declared.event.Event.{Event}
use Rattle.replay_form.specs.declared.event.Event.TheVariants as events
use Rattle.replay_form.specs.declared.event.RecordFault.{RecordFault}
use Rattle.replay_form.specs.declared.record_head.RecordHead.{RecordHead}
use Rattle.replay_form.proofs.RecordLaws.{cut-append, record_wrong-append}
use Rattle.replay_form.proofs.ReadingLaws.{sound_stands, step_sound, step_lies, kept_whole, not_both}
use Rattle.replay_form.specs.Grammar.{HasWhole, IsStanding, IsWrong, IsLawful, AreReads}
use Rattle.replay_form.specs.Grammar.{IsIntake}
use Rattle.replay_form.specs.RecordGrammar.{record_grammar, record_reads}

known : (started : Bool) (head : RecordHead) → started ≡ true → (if started then Some head else None) ≡ Some head
known true head e = refl
known false head e = cc

unknown : (started : Bool) (head : RecordHead) → started ≡ false → (if started then Some head else None) ≡ None
unknown true head e = cc
unknown false head e = refl

has_so_far : (reading : Reading) (taken : List ℕ) (frames : List Frame) → reading.fault ≡ None → StandsFor reading taken frames
    → HasWhole record_grammar (record_reads reading).head frames taken
has_so_far reading taken frames sound stands =
    elim (sound_stands reading taken frames sound stands) [
      | inl b ↦ subst (λ (h : Option RecordHead). HasWhole record_grammar h frames taken) (sym (unknown reading.started reading.head b.started))
          (b.none, inl (subst IsHeadPart (sym b.bytes) b.part))
      | inr g ↦ subst (λ (h : Option RecordHead). HasWhole record_grammar h frames taken) (sym (known reading.started reading.head g.started))
          (record { rest = begun reading; cut = g.so_far.cut; behind = inl g.so_far.part })
    ]

sound_so_far : (reading : Reading) (taken : List ℕ) (frames : List Frame) → reading.fault ≡ None → StandsFor reading taken frames → HasNoFault taken
sound_so_far reading taken frames sound stands =
    elim (sound_stands reading taken frames sound stands) [
      | inl b ↦ inl (subst IsHeadPart (sym b.bytes) b.part)
      | inr g ↦ inr (reading.head, (frames, (begun reading, g.so_far)))
    ]

pub are_reads : (reading : Reading) → AreReads record_grammar (record_reads reading)
are_reads reading = record {
  sound = λ taken frames s. sound_so_far reading taken frames s.0 s.1;
  has = λ taken frames s. has_so_far reading taken frames s.0 s.1;
  within = omega arith;
  one = λ taken frame other p q. p.1.0 ∙ sym q.1.0;
}

pub record_lawful : IsLawful record_grammar
record_lawful = record { stays = λ bytes more offset w. (w.0, record_wrong-append w.0 bytes more offset w.1) }

-- ---- one call

-- in front of the header nothing stands whole
none_whole : (reading : Reading) → reading.started ≡ false → IsStanding (record_reads reading) → reading.start ≡ 0
none_whole reading first standing =
    elim (sound_stands reading standing.0 standing.1.0 standing.1.1.0 standing.1.1.1) [
      | inl b ↦ omega (arith, b.start, ap length b.bytes)
      | inr g ↦ not_both reading.started g.started first
    ]

-- a frame has more bytes than its datagram
datagram_within : (old : Reading) (piece : List ℕ) (count : ℕ) (new : Reading) → IsReaderFrame old piece count new
    → old.start + length (held_frame new (take count piece)).datagram < new.start
datagram_within old piece count new step =
    let front = take count piece in
    let bytes = begun old ++ front in
    let start : new.start ≡ old.start + length bytes = ap (λ (r : Reading). r.start) step.after in
    let held : length (drop 20 (whole_bytes new.held front)) ≡ length (drop 20 bytes) =
    ap (λ (r : Reading). length (drop 20 (whole_bytes r.held front))) step.after ∙ ap (λ bs. length (drop 20 bs)) (kept_whole (begun old) front) in
    omega (arith, start, held, length-drop 20 bytes, step.whole.all)

pub intake_step : (old : Reading) (piece : List ℕ) (count : ℕ) (event : Event) (new : Reading) → IsNextReading old piece count event new
    → IsStanding (record_reads old)
    → ((taken : List ℕ) (frames : List Frame) → StandsFor old taken frames → StandsFor new (taken ++ take count piece) (frames_after event frames new (take count piece)))
    → IsIntake record_grammar event piece count (record_reads old) (record_reads new)
intake_step old piece count events.More new step standing stands = record {
  all = step.all;
  whole = ap (λ (r : Reading). r.start) step.after;
  head = ap (λ (r : Reading). (record_reads r).head) step.after;
  stands = λ taken frames s. (
    step_sound old piece count events.More new step,
    subst (λ l. StandsFor new (taken ++ l) frames) (take_all count piece (omega (arith, step.all))) (stands taken frames s.1),
  );
}
intake_step old piece count events.Head new step standing stands = record {
  first = unknown old.started old.head step.first;
  whole = omega (arith, none_whole old step.first standing);
  says = new.head;
  head = known new.started new.head (ap (λ (r : Reading). r.started) step.after);
  header = λ taken frames s.
      elim (sound_stands old taken frames s.0 s.1) [
        | inl b ↦ (new.head, subst (λ l. IsHead new.head (l ++ take count piece)) (sym b.bytes) step.says)
        | inr g ↦ not_both old.started g.started step.first
      ];
  stands = λ taken frames s. (step_sound old piece count events.Head new step, stands taken frames s.1);
}
intake_step old piece count events.Frame new step standing stands = record {
  says = old.head;
  later = known old.started old.head step.later;
  head = known new.started new.head (ap (λ (r : Reading). r.started) step.after ∙ step.later) ∙ ap (λ (r : Reading). Some r.head) step.after;
  is = held_frame new (take count piece);
  frame = (ap (λ (r : Reading). r.whole) step.after, (refl, step_lies old piece count events.Frame new step (ap (λ (r : Reading). r.whole) step.after)));
  whole = datagram_within old piece count new step;
  stands = λ taken frames s. (step_sound old piece count events.Frame new step, stands taken frames s.1);
}

-- ---- a field is wrong

failing : (fault : Option RecordFault) (old : Reading) (piece : List ℕ) (offset : ℕ) (new : Reading) → fault ≡ None → IsFailed fault old piece offset new → IsNewFault old piece offset new
failing None old piece offset new e fails = fails
failing (Some fault) old piece offset new e fails = cc

wrong_now : (fault : Option RecordFault) (reading : Reading) (taken : List ℕ) (frames : List Frame) (offset : ℕ) → fault ≡ Some (record { offset = offset })
    → StandsWith fault reading taken frames → IsRecordWrongAt frames taken offset
wrong_now fault reading taken frames offset e stands = subst (λ f. StandsWith f reading taken frames) e stands

wrong_has : (old : Reading) (piece : List ℕ) (offset : ℕ) (new : Reading) (taken : List ℕ) (frames : List Frame) → IsNewFault old piece offset new → old.fault ≡ None
    → StandsFor old taken frames → HasWhole record_grammar (record_reads old).head frames (taken ++ piece)
wrong_has old piece offset new taken frames fails sound stands =
    elim (sound_stands old taken frames sound stands) [
      | inl b ↦ subst (λ (h : Option RecordHead). HasWhole record_grammar h frames (taken ++ piece)) (sym (unknown old.started old.head b.started))
          (b.none, inr (offset, subst (λ xs. IsHeadWrongAt xs offset) (ap (λ xs. xs ++ piece) (sym b.bytes)) (fails.in_head b.started)))
      | inr g ↦ (
          let f = fails.in_frame g.started in
          subst (λ (h : Option RecordHead). HasWhole record_grammar h frames (taken ++ piece)) (sym (known old.started old.head g.started))
          (record {
            rest = begun old ++ piece;
            cut = cut-append old.head frames (begun old) taken piece g.so_far.cut;
            behind = inr (f.0, subst (λ last. IsFrameWrongAt last (begun old ++ piece) f.0) g.last f.1.0);
          })
          )
    ]

pub intake_wrong : (old : Reading) (piece : List ℕ) (offset : ℕ) (new : Reading) → IsFailed old.fault old piece offset new
    → ((taken : List ℕ) (frames : List Frame) → StandsFor old taken frames → StandsFor new (taken ++ piece) frames)
    → IsWrong record_grammar piece offset (record_reads old)
intake_wrong old piece offset new fails stands = record {
  wrong = λ taken frames s.
      let fresh = failing old.fault old piece offset new s.0 fails in
      (frames, wrong_now new.fault new (taken ++ piece) frames offset fresh.fault (stands taken frames s.1));
  has = λ taken frames s. wrong_has old piece offset new taken frames (failing old.fault old piece offset new s.0 fails) s.0 s.1;
}

-- ---- the end
