-- A reader stands for all bytes that it was given, however they were cut.
use Rattle.std.proofs.Common.{◌≡◌, ℕ, ◌+◌, ◌<◌, ◌≤◌, ◌^◌, ◌⊎◌, inl, inr, true, false, List, [], ◌∷◌, ◌++◌, length, take, drop, Option, Some, None, refl, sym, ap, ◌∙◌, subst, length-append, take_all, arith}
use Rattle.std.proofs.lemmas.List.{length-take-le}
use Rattle.vrt_time.specs.Time.{TimeStamp}
use Rattle.replay_form.specs.HeadFields.{IsHeadPart, IsHeadWrongAt}
use Rattle.replay_form.specs.Reading.{kept_of}
use Rattle.replay_form.specs.Reading.{Reading as HeaderReading, begun as header_begun}
use Rattle.replay_form.specs.declared.event.RecordFault.{RecordFault}
use Rattle.replay_form.proofs.ReadingLaws.{kept_whole, not_both}
use Rattle.pcap_frames.specs.CaptureFields.{Captured, IsCaptured, IsFilePart, captured_in}
use Rattle.pcap_frames.specs.CaptureFile.{EndsInside, IsCapture, IsCaptureWrongAt, IsCut, IsHeaded}
use Rattle.pcap_frames.specs.Reading.{Reading, begun, held_record, IsRecordIn, IsBeginning, IsOpening, IsGoing, StandsIn, StandsSound, StandsWith, StandsFor, IsFresh, IsMoreIn, IsMore, IsHeadRead, IsFileRead, IsRecordRead, IsNextReading, IsWrongIn, IsFailed, IsShortIn, IsUnfinished, IsAtEnd, IsHeaderKept, IsKeptIn, Keeps, records_after}
use Rattle.pcap_frames.specs.declared.event.CaptureEvent.{CaptureEvent}
use Rattle.pcap_frames.specs.declared.event.CaptureEvent.TheVariants as events
use Rattle.pcap_frames.specs.declared.form.FileForm.{FileForm}
use Rattle.pcap_frames.specs.declared.stage.Stage.{Stage}
use Rattle.pcap_frames.specs.declared.stage.Stage.TheVariants as stages
use Rattle.pcap_frames.proofs.CaptureLaws.{headed-append, headed-head, cut-append, cut-file, cut-record, nothing_open, nothing_opened, capture_wrong-append}

-- a reader without a fault
pub sound_stands : (reading : Reading) (taken : List ℕ) (records : List Captured) → reading.fault ≡ None → StandsFor reading taken records → StandsSound reading taken records
sound_stands reading taken records sound stands = subst (λ fault. StandsWith fault reading taken records) sound stands

pub stands_sound : (reading : Reading) (taken : List ℕ) (records : List Captured) → reading.fault ≡ None → StandsSound reading taken records → StandsFor reading taken records
stands_sound reading taken records sound stands = subst (λ fault. StandsWith fault reading taken records) (sym sound) stands

pub in_stage : (reading : Reading) (stage : Stage) (taken : List ℕ) (records : List Captured) → reading.stage ≡ stage → StandsSound reading taken records
    → StandsIn stage reading taken records
in_stage reading stage taken records e s = subst (λ (g : Stage). StandsIn g reading taken records) e s.staged

-- all of a piece was taken
more_in : (stage : Stage) (old : Reading) (piece : List ℕ) (new : Reading) (taken : List ℕ) (records : List Captured) → old.fault ≡ None → old.stage ≡ stage
    → IsMoreIn stage old piece new → StandsSound old taken records → StandsFor new (taken ++ piece) records
more_in stages.Header old piece new taken records sound stage more s =
    let b = in_stage old stages.Header taken records stage s in
    let after : Reading = record old { header = new.header; start = old.start + length piece; whole = false; held = [] } in
    let bytes : taken ++ piece ≡ header_begun old.header ++ piece = ap (λ xs. xs ++ piece) b.bytes in
    let here : IsBeginning after (taken ++ piece) records = record {
      started = more.started;
      none = b.none;
      bytes = bytes ∙ sym more.bytes;
      part = subst IsHeadPart (sym bytes) more.part;
      nothing = refl;
    } in
    subst (λ r. StandsFor r (taken ++ piece) records) (sym more.after)
    (stands_sound after (taken ++ piece) records sound (record {
      start = omega (arith, s.start, ap length b.nothing, length-append taken piece);
      staged = subst (λ (g : Stage). StandsIn g after (taken ++ piece) records) (sym stage) here;
    }))
more_in stages.FileHead old piece new taken records sound stage more s =
    let o = in_stage old stages.FileHead taken records stage s in
    let after : Reading = record old { whole = false; held = begun old ++ piece } in
    let here : IsOpening after (taken ++ piece) records = record {
      started = o.started;
      none = o.none;
      so_far = record { headed = headed-append old.header.head (begun old) taken piece o.so_far.headed; part = more.part };
    } in
    subst (λ r. StandsFor r (taken ++ piece) records) (sym more.after)
    (stands_sound after (taken ++ piece) records sound (record {
      start = omega (arith, s.start, length-append (begun old) piece, length-append taken piece);
      staged = subst (λ (g : Stage). StandsIn g after (taken ++ piece) records) (sym stage) here;
    }))
more_in (stages.Records form) old piece new taken records sound stage more s =
    let o = in_stage old (stages.Records form) taken records stage s in
    let after : Reading = record old { whole = false; held = begun old ++ piece } in
    let here : IsGoing form after (taken ++ piece) records = record {
      started = o.started;
      so_far = record { cut = cut-append old.header.head form records (begun old) taken piece o.so_far.cut; part = more.part };
    } in
    subst (λ r. StandsFor r (taken ++ piece) records) (sym more.after)
    (stands_sound after (taken ++ piece) records sound (record {
      start = omega (arith, s.start, length-append (begun old) piece, length-append taken piece);
      staged = subst (λ (g : Stage). StandsIn g after (taken ++ piece) records) (sym stage) here;
    }))

more_taken : (taken piece : List ℕ) (count : ℕ) → count ≡ length piece → taken ++ piece ≡ taken ++ take count piece
more_taken taken piece count e = ap (λ xs. taken ++ xs) (sym (take_all count piece (omega arith)))

more_stands : (old : Reading) (piece : List ℕ) (count : ℕ) (new : Reading) (taken : List ℕ) (records : List Captured) → IsMore old piece count new → StandsFor old taken records
    → StandsFor new (taken ++ take count piece) records
more_stands old piece count new taken records step stands =
    subst (λ xs. StandsFor new xs records) (more_taken taken piece count step.all)
    (more_in old.stage old piece new taken records step.sound refl step.staged (sound_stands old taken records step.sound stands))

-- the header is whole
head_stands : (old : Reading) (piece : List ℕ) (count : ℕ) (new : Reading) (taken : List ℕ) (records : List Captured) → IsHeadRead old piece count new → StandsFor old taken records
    → StandsFor new (taken ++ take count piece) records
head_stands old piece count new taken records step stands =
    let s = sound_stands old taken records step.sound stands in
    let b = in_stage old stages.Header taken records step.stage s in
    let front = take count piece in
    let bytes : taken ++ front ≡ header_begun old.header ++ front = ap (λ xs. xs ++ front) b.bytes in
    let after : Reading = record old { header = new.header; stage = stages.FileHead; start = old.start + count; whole = false; held = [] } in
    let headed : IsHeaded new.header.head [] (taken ++ front) = subst (λ xs. IsHeaded new.header.head [] xs) (sym bytes)
    (headed-head new.header.head (header_begun old.header ++ front) step.says) in
    let here : IsOpening after (taken ++ front) records = record {
      started = step.started;
      none = b.none;
      so_far = record {
        headed = headed;
        part = nothing_opened;
      };
    } in
    subst (λ r. StandsFor r (taken ++ front) records) (sym step.after)
    (stands_sound after (taken ++ front) records step.sound (record {
      start = omega (arith, s.start, ap length b.nothing, length-append taken front, length-take-le count piece step.few);
      staged = here;
    }))

-- the head of the file is whole
file_stands : (old : Reading) (piece : List ℕ) (count : ℕ) (new : Reading) (taken : List ℕ) (records : List Captured) → IsFileRead old piece count new → StandsFor old taken records
    → StandsFor new (taken ++ take count piece) records
file_stands old piece count new taken records step stands =
    let s = sound_stands old taken records step.sound stands in
    let o = in_stage old stages.FileHead taken records step.stage s in
    let front = take count piece in
    let bytes = begun old ++ front in
    let after : Reading = record old { stage = stages.Records step.form; start = old.start + length bytes; whole = false; held = [] } in
    let headed = headed-append old.header.head (begun old) taken front o.so_far.headed in
    let here : IsGoing step.form after (taken ++ front) records = record {
      started = o.started;
      so_far = record {
        cut = subst (λ (rs : List Captured). IsCut old.header.head step.form rs [] (taken ++ front)) (sym o.none)
            (cut-file old.header.head step.form bytes (taken ++ front) headed step.whole);
        part = nothing_open step.form;
      };
    } in
    subst (λ r. StandsFor r (taken ++ front) records) (sym step.after)
    (stands_sound after (taken ++ front) records step.sound (record {
      start = omega (arith, s.start, length-append (begun old) front, length-append taken front);
      staged = here;
    }))

captured_with : TimeStamp → List ℕ → Captured
captured_with stamp bytes = record { stamp = stamp; bytes = bytes }

-- a record is whole
record_stands : (old : Reading) (piece : List ℕ) (count : ℕ) (new : Reading) (taken : List ℕ) (records : List Captured) → IsRecordRead old piece count new
    → StandsFor old taken records → StandsFor new (taken ++ take count piece) (records ++ held_record new (take count piece) ∷ [])
unfolding captured_with
record_stands old piece count new taken records step stands =
    let s = sound_stands old taken records step.sound stands in
    let form = step.form in
    let o = in_stage old (stages.Records form) taken records step.stage s in
    let front = take count piece in
    let bytes = begun old ++ front in
    let captured = captured_in form bytes in
    let after : Reading = record old { stamp = captured.stamp; start = old.start + length bytes; whole = true; held = kept_of (begun old) front } in
    let same : held_record after front ≡ captured = ap (λ bs. captured_with captured.stamp (drop 16 bs)) (kept_whole (begun old) front) in
    let cut = cut-append old.header.head form records (begun old) taken front o.so_far.cut in
    let here : IsGoing form after (taken ++ front) (records ++ captured ∷ []) = record {
      started = o.started;
      so_far = record {
        cut = cut-record old.header.head form records captured bytes (taken ++ front) cut (record { whole = step.whole; told = refl });
        part = nothing_open form;
      };
    } in
    let sound : StandsSound after (taken ++ front) (records ++ captured ∷ []) = record {
      start = omega (arith, s.start, length-append (begun old) front, length-append taken front);
      staged = subst (λ (g : Stage). StandsIn g after (taken ++ front) (records ++ captured ∷ [])) (sym step.stage) here;
    } in
    subst (λ r. StandsFor r (taken ++ front) (records ++ held_record r front ∷ [])) (sym step.after)
    (subst (λ (c : Captured). StandsFor after (taken ++ front) (records ++ c ∷ [])) (sym same)
    (stands_sound after (taken ++ front) (records ++ captured ∷ []) step.sound sound))

-- each call adds its bytes, and its record
pub step_stands : (old : Reading) (piece : List ℕ) (count : ℕ) (event : CaptureEvent) (new : Reading) (taken : List ℕ) (records : List Captured)
    → IsNextReading old piece count event new → StandsFor old taken records → StandsFor new (taken ++ take count piece) (records_after event records new (take count piece))
step_stands old piece count events.More new taken records step stands = more_stands old piece count new taken records step stands
step_stands old piece count events.Head new taken records step stands = head_stands old piece count new taken records step stands
step_stands old piece count events.File new taken records step stands = file_stands old piece count new taken records step stands
step_stands old piece count events.Record new taken records step stands = record_stands old piece count new taken records step stands

-- a fault is that of all bytes
wrong_in : (stage : Stage) (old : Reading) (piece : List ℕ) (offset : ℕ) (taken : List ℕ) (records : List Captured) → old.stage ≡ stage → IsWrongIn stage old piece offset
    → StandsSound old taken records → IsCaptureWrongAt records (taken ++ piece) offset
wrong_in stages.Header old piece offset taken records stage wrong s =
    let b = in_stage old stages.Header taken records stage s in
    inl (b.none, inl (subst (λ xs. IsHeadWrongAt xs offset) (ap (λ xs. xs ++ piece) (sym b.bytes)) wrong.1))
wrong_in stages.FileHead old piece offset taken records stage wrong s =
    let o = in_stage old stages.FileHead taken records stage s in
    inl (
      o.none,
      inr (record {
        head = old.header.head;
        rest = begun old ++ piece;
        headed = headed-append old.header.head (begun old) taken piece o.so_far.headed;
        place = wrong.0;
        file = wrong.1.0;
        told = omega (arith, wrong.1.1, s.start, length-append (begun old) piece, length-append taken piece);
      }),
    )
wrong_in (stages.Records form) old piece offset taken records stage wrong s =
    let o = in_stage old (stages.Records form) taken records stage s in
    inr (record {
      head = old.header.head;
      form = form;
      rest = begun old ++ piece;
      cut = cut-append old.header.head form records (begun old) taken piece o.so_far.cut;
      place = wrong.0;
      frame = wrong.1.0;
      told = omega (arith, wrong.1.1, s.start, length-append (begun old) piece, length-append taken piece);
    })

failed : (fault : Option RecordFault) (old : Reading) (piece : List ℕ) (offset : ℕ) (new : Reading) (taken : List ℕ) (records : List Captured) → old.fault ≡ fault
    → IsFailed fault old piece offset new → StandsWith fault old taken records → StandsFor new (taken ++ piece) records
failed (Some fault) old piece offset new taken records was fails stands =
    subst (λ r. StandsFor r (taken ++ piece) records) (sym fails.1)
    (subst (λ f. StandsWith f old (taken ++ piece) records) (sym was) (capture_wrong-append records taken piece fault.offset stands))
failed None old piece offset new taken records was fails stands =
    subst (λ f. StandsWith f new (taken ++ piece) records) (sym fails.fault) (wrong_in old.stage old piece offset taken records refl fails.staged stands)

pub failed_stands : (old : Reading) (piece : List ℕ) (offset : ℕ) (new : Reading) (taken : List ℕ) (records : List Captured) → IsFailed old.fault old piece offset new
    → StandsFor old taken records → StandsFor new (taken ++ piece) records
failed_stands old piece offset new taken records fails stands = failed old.fault old piece offset new taken records refl fails stands

-- a fresh reader stands for no bytes
pub fresh_stands : (reading : Reading) → IsFresh reading → StandsFor reading [] []
fresh_stands reading fresh =
    let none : begun reading ≡ [] = rw (fresh.whole, fresh.held) refl in
    let header : header_begun reading.header ≡ [] = rw (fresh.header.whole, fresh.header.held) refl in
    let here : IsBeginning reading [] [] = record {
      started = fresh.header.started;
      none = refl;
      bytes = sym header;
      part = (0, record { among = omega arith; before = λ i h. absurd (omega arith); missing = omega arith });
      nothing = none;
    } in
    stands_sound reading [] [] fresh.fault (record {
      start = omega (arith, ap length none, fresh.start);
      staged = subst (λ (g : Stage). StandsIn g reading [] []) (sym fresh.stage) here;
    })

-- a call that gives an event leaves no fault
more_sound : (stage : Stage) (old : Reading) (piece : List ℕ) (new : Reading) → IsMoreIn stage old piece new → new.fault ≡ old.fault
more_sound stages.Header old piece new more = ap (λ (r : Reading). r.fault) more.after
more_sound stages.FileHead old piece new more = ap (λ (r : Reading). r.fault) more.after
more_sound (stages.Records form) old piece new more = ap (λ (r : Reading). r.fault) more.after

pub step_sound : (old : Reading) (piece : List ℕ) (count : ℕ) (event : CaptureEvent) (new : Reading) → IsNextReading old piece count event new → new.fault ≡ None
step_sound old piece count events.More new step = more_sound old.stage old piece new step.staged ∙ step.sound
step_sound old piece count events.Head new step = ap (λ (r : Reading). r.fault) step.after ∙ step.sound
step_sound old piece count events.File new step = ap (λ (r : Reading). r.fault) step.after ∙ step.sound
step_sound old piece count events.Record new step = ap (λ (r : Reading). r.fault) step.after ∙ step.sound

-- and takes no more bytes than there are
pub step_few : (old : Reading) (piece : List ℕ) (count : ℕ) (event : CaptureEvent) (new : Reading) → IsNextReading old piece count event new → count ≤ length piece
step_few old piece count events.More new step = (let e = step.all in omega arith)
step_few old piece count events.Head new step = step.few
step_few old piece count events.File new step = step.few
step_few old piece count events.Record new step = step.few

-- the end: a capture was read,
pub finished_read : (reading : Reading) (taken : List ℕ) (records : List Captured) → IsAtEnd reading → StandsFor reading taken records
    → (form : FileForm) × IsCapture reading.header.head form records taken
finished_read reading taken records ends stands =
    let s = sound_stands reading taken records ends.sound stands in
    let o = in_stage reading (stages.Records ends.form) taken records ends.stage s in
    (ends.form, subst (λ rest. IsCut reading.header.head ends.form records rest taken) ends.nothing o.so_far.cut)

-- or the bytes end inside the header, the head of the file or a record
short_in : (stage : Stage) (reading : Reading) (taken : List ℕ) (records : List Captured) → reading.stage ≡ stage → IsShortIn stage reading
    → StandsSound reading taken records → EndsInside taken
short_in stages.Header reading taken records stage short s = inl (in_stage reading stages.Header taken records stage s).part
short_in stages.FileHead reading taken records stage short s =
    inr (inl (reading.header.head, (begun reading, (in_stage reading stages.FileHead taken records stage s).so_far)))
short_in (stages.Records form) reading taken records stage short s =
    inr (inr (reading.header.head, (form, (records, (begun reading, (short, (in_stage reading (stages.Records form) taken records stage s).so_far))))))

unfinished : (fault : Option RecordFault) (reading : Reading) (taken : List ℕ) (records : List Captured) (offset : ℕ) → IsUnfinished fault reading offset
    → StandsWith fault reading taken records → IsCaptureWrongAt records taken offset ⊎ (EndsInside taken × (offset ≡ length taken))
unfinished (Some fault) reading taken records offset ends stands = inl (subst (IsCaptureWrongAt records taken) (sym ends) stands)
unfinished None reading taken records offset ends stands =
    inr (short_in reading.stage reading taken records refl ends.1 stands, ends.0 ∙ stands.start)

pub unfinished_told : (reading : Reading) (taken : List ℕ) (records : List Captured) (offset : ℕ) → IsUnfinished reading.fault reading offset
    → StandsFor reading taken records → IsCaptureWrongAt records taken offset ⊎ (EndsInside taken × (offset ≡ length taken))
unfinished_told reading taken records offset ends stands = unfinished reading.fault reading taken records offset ends stands

-- where a record is whole, it stands in the bytes taken, or in those held
record_lies : (old : Reading) (piece : List ℕ) (count : ℕ) (new : Reading) → IsRecordRead old piece count new → IsRecordIn new (take count piece)
unfolding captured_with
record_lies old piece count new step =
    let front = take count piece in
    let bytes = begun old ++ front in
    let stamp = (captured_in step.form bytes).stamp in
    subst (λ r. IsRecordIn r front) (sym step.after)
    (step.form, subst (λ bs. IsCaptured step.form (captured_with stamp (drop 16 bs)) bs) (sym (kept_whole (begun old) front)) (record { whole = step.whole; told = refl }))

idle_in : (stage : Stage) (old : Reading) (piece : List ℕ) (new : Reading) → IsMoreIn stage old piece new → new.whole ≡ false
idle_in stages.Header old piece new more = ap (λ (r : Reading). r.whole) more.after
idle_in stages.FileHead old piece new more = ap (λ (r : Reading). r.whole) more.after
idle_in (stages.Records form) old piece new more = ap (λ (r : Reading). r.whole) more.after

pub step_lies : (old : Reading) (piece : List ℕ) (count : ℕ) (event : CaptureEvent) (new : Reading) → IsNextReading old piece count event new → new.whole ≡ true
    → IsRecordIn new (take count piece)
step_lies old piece count events.More new step whole = not_both new.whole whole (idle_in old.stage old piece new step.staged)
step_lies old piece count events.Head new step whole = not_both new.whole whole (ap (λ (r : Reading). r.whole) step.after)
step_lies old piece count events.File new step whole = not_both new.whole whole (ap (λ (r : Reading). r.whole) step.after)
step_lies old piece count events.Record new step whole = record_lies old piece count new step

-- ---- what a reader keeps true

pub header_kept : (reading : Reading) (room : ℕ) → Keeps reading room → reading.fault ≡ None → reading.stage ≡ stages.Header → IsHeaderKept reading
header_kept reading room keeps sound stage = subst (λ (g : Stage). IsKeptIn g reading) stage (keeps.staged sound)

-- the header is whole, and the head of the file has not begun
pub opened_kept : (reading : Reading) (room : ℕ) (header : HeaderReading) (count : ℕ) → Keeps reading room → reading.fault ≡ None → reading.stage ≡ stages.Header
    → header.started ≡ true → reading.start + count < 2 ^ 63 → Keeps (record reading { header = header; stage = stages.FileHead; start = reading.start + count }) room
opened_kept reading room header count keeps sound stage started small =
    let kept = header_kept reading room keeps sound stage in
    let none : begun reading ≡ [] = rw (kept.idle, kept.nothing) refl in
    record {
      held_fit = keeps.held_fit;
      idle = keeps.idle;
      staged = λ s. record { started = started; idle = kept.idle; part = subst IsFilePart (sym kept.nothing) nothing_opened };
      small = λ s. omega (arith, ap length none);
    }

-- without a fault, the number of all bytes is known
pub stands_size : (reading : Reading) (taken : List ℕ) (records : List Captured) → reading.fault ≡ None → StandsFor reading taken records
    → reading.start + length (begun reading) ≡ length taken
stands_size reading taken records sound stands = (sound_stands reading taken records sound stands).start
