-- What migrate tells of the header, of one frame more, and of the end.
use Rattle.std.proofs.Common.{◌≡◌, ℕ, ◌+◌, Bool, true, false, List, [], ◌∷◌, ◌++◌, length, refl, sym, ap, ◌∙◌, subst, arith}
use Rattle.std.specs.Prelude.{Some}
use Rattle.vrt_words.specs.Words.{AreBytes}
use Rattle.replay_form.specs.FrameFields.{Frame, IsFrame}
use Rattle.replay_form.specs.Reading.{Reading, held_frame}
use Rattle.replay_form.specs.Record.{first_stamp}
use Rattle.replay_form.specs.declared.record_head.RecordHead.{RecordHead}
use Rattle.replay_form.specs.RecordGrammar.{record_grammar, record_reads}
use Rattle.record_run.specs.Tells.{GoesOn, Puts}
use Rattle.record_run.specs.Outcome.{Moves, IsOutcome}
use Rattle.record_run.specs.declared.status.Status.{Status}
use Rattle.record_run.proofs.Retold.{outcome_retold}
use Rattle.difi_cmd.specs.Outcome.{migrated_of, migration_of}
use Rattle.difi_cmd.specs.Migrated.{IsFrameBytes, IsMigratedHead}
use Rattle.difi_cmd.specs.Migrating.{Migrating, IsToldBy, IsStarted, migrated_by}
use Rattle.difi_cmd.proofs.Telling.{head_is}

begun_told : (head : RecordHead) (started now : Bool) (owed bytes : List ℕ) (later : List Frame) (more : List ℕ) → started ≡ false → now ≡ true → IsMigratedHead head bytes
    → IsToldBy now bytes head later more → IsToldBy started owed head later more
begun_told head false true owed bytes later more e f is p = (bytes, (is, p))
begun_told head false false owed bytes later more e f is p = cc
begun_told head true now owed bytes later more e f is p = cc

-- the header that came is told first
pub started_on : (reader : Reading) (lent head : RecordHead) (old new : Migrating) → old.started ≡ false → (reader.started ≡ true) × (lent ≡ reader.head)
    → (record_reads reader).head ≡ Some head → IsStarted lent old new → GoesOn head [] [] (migrated_by old) (migrated_by new)
started_on reader lent head old new first has known started =
    let same : lent ≡ head = has.1 ∙ head_is reader.started reader.head head has.0 known in
    let is : IsMigratedHead head new.owed = subst (λ (h : RecordHead). IsMigratedHead h new.owed) same started.owed in record {
      part = λ later more p. begun_told head old.started new.started old.owed new.owed later more first started.started is p;
      out = λ later more p. begun_told head old.started new.started old.owed new.owed later more first started.started is p;
    }

one_more : (head : RecordHead) (frame : Frame) (bytes : List ℕ) (started : Bool) (owed : List ℕ) (later : List Frame) (more : List ℕ) → started ≡ true → length owed ≡ 0
    → IsFrameBytes frame bytes → IsToldBy started owed head later more → IsToldBy started owed head (frame ∷ later) (bytes ++ more)
one_more head frame bytes true [] later more e none is p = (bytes ++ p.0, (ap (λ l. bytes ++ l) p.1.0, (bytes, (p.0, (refl, (is, p.1.1))))))
one_more head frame bytes true (x ∷ owed) later more e none is p = absurd (omega (arith, none))
one_more head frame bytes false owed later more e none is p = cc

-- one frame more
pub frame_on : (reader : Reading) (taken : List ℕ) (head : RecordHead) (frame : Frame) (bytes waiting waiting' : List ℕ) (old new : Migrating) → new ≡ record old { frames = old.frames + 1 } → old.started ≡ true → length old.owed ≡ 0
    → (reader.whole ≡ true) × IsFrame first_stamp (held_frame reader taken) bytes → (record_reads reader).frame taken frame → AreBytes bytes → waiting' ≡ waiting ++ bytes
    → Puts head (frame ∷ []) waiting waiting' (migrated_by old) (migrated_by new)
frame_on reader taken head frame bytes waiting waiting' old new counted started none has whole fit put =
    let same : held_frame reader taken ≡ frame = sym whole.1.0 in
    let is : IsFrameBytes frame bytes = record { fit = fit; says = subst (λ (f : Frame). IsFrame first_stamp f bytes) same has.1 } in
    subst (λ (it : Migrating). Puts head (frame ∷ []) waiting waiting' (migrated_by old) (migrated_by it)) (sym counted) (record {
      text = bytes;
      put = put;
      goes = record {
        part = λ later more p. one_more head frame bytes old.started old.owed later more started none is p;
        out = λ later more p. one_more head frame bytes old.started old.owed later more started none is p;
      };
    })

-- before the header came, all of the record is told
pub all_told : (most : ℕ) (status : Status) (moves : Moves) (it : Migrating) → it.started ≡ false
    → IsOutcome status (record { most = most; grammar = record_grammar; tells = migrated_by it }) moves → IsOutcome status (migration_of most) moves
all_told most status moves it first =
    outcome_retold most record_grammar (migrated_by it) migrated_of (record {
      part = λ head frames text p. subst (λ (b : Bool). IsToldBy b it.owed head frames text) first p;
      out = λ head frames text p. subst (λ (b : Bool). IsToldBy b it.owed head frames text) first p;
      wants = refl;
    }) status moves
