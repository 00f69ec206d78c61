-- What check and show tell of one frame more, and of the end.
use Rattle.std.proofs.Common.{◌≡◌, ℕ, ◌+◌, Bool, true, false, List, [], ◌∷◌, ◌++◌, length, refl, sym, ap, ◌∙◌, subst, append_assoc, cond, arith}
use Rattle.std.specs.Prelude.{count_by, if◌then◌else◌, Some, None}
use Rattle.std.proofs.lemmas.List.Sums.{sum_by-append}
use Rattle.replay_form.specs.FrameFields.{Frame}
use Rattle.replay_form.specs.declared.record_head.RecordHead.{RecordHead}
use Rattle.record_run.specs.Tells.{Puts}
use Rattle.difi_texts.specs.declared.lines.Listing.{Listing}
use Rattle.difi_texts.specs.Lines.{Account, entry, entries, counts, summary, is_accepted}
use Rattle.difi_cmd.specs.declared.report.Report.{Report}
use Rattle.difi_cmd.specs.Text.{IsAccount, AreAccounts}
use Rattle.difi_cmd.specs.Telling.{IsNoted, last_line, told_from, told_by}
use Rattle.difi_cmd.specs.Outcome.{told_of}
use Rattle.vrt_time.specs.Time.{TimeStamp}
use Rattle.replay_form.specs.Reading.{Reading, held_frame}
use Rattle.replay_form.specs.RecordGrammar.{record_grammar, record_reads}
use Rattle.record_run.specs.Outcome.{Moves, IsOutcome}
use Rattle.record_run.proofs.Retold.{Retells, outcome_retold}
use Rattle.record_run.specs.declared.status.Status.{Status}

-- the frames behind the one that was noted, with it in front
entries_on : (old new : Report) (text text' : List ℕ) (account : Account) (later : List Account) → IsNoted old new text text' account
    → entry (old.frames + 1) account ++ entries (new.frames + 1) later ≡ entries (old.frames + 1) (account ∷ later)
entries_on old new text text' account later noted =
    ap (λ n. entry (old.frames + 1) account ++ entries n later) (omega (arith, noted.frames))

last_on : (old new : Report) (text text' : List ℕ) (account : Account) (later : List Account) → IsNoted old new text text' account
    → last_line new.frames new.accepted new.ended later ≡ last_line old.frames old.accepted old.ended (account ∷ later)
last_on old new text text' account later noted =
    ap (λ (b : Bool). if b then [] else counts (new.frames + length later) (new.accepted + count_by is_accepted later)) noted.ended
    ∙ ap (λ n. if old.ended then [] else counts n (new.accepted + count_by is_accepted later)) (omega (arith, noted.frames))
    ∙ ap (λ n. if old.ended then [] else counts (old.frames + length (account ∷ later)) n) (accepted_on noted.accepted) where
      accepted_on : new.accepted ≡ old.accepted + count_by is_accepted (account ∷ []) → new.accepted + count_by is_accepted later ≡ old.accepted + count_by is_accepted (account ∷ later)
      accepted_on e = omega (arith, e, sum_by-append (λ a. cond (is_accepted a) 1 0) (account ∷ []) later)

pub noted_on : (head : RecordHead) (frame : Frame) (old new : Report) (text text' : List ℕ) (account : Account) → IsAccount old.listing head frame.datagram account
    → IsNoted old new text text' account → Puts head (frame ∷ []) text text' (told_by old) (told_by new)
noted_on head frame old new text text' account is noted =
    let kept : (frames : List Frame) (accounts : List Account) → AreAccounts new.listing head frames accounts → AreAccounts old.listing head frames accounts =
    λ frames accounts are. subst (λ (l : Listing). AreAccounts l head frames accounts) noted.listing are in record {
      text = entry (old.frames + 1) account;
      put = noted.text;
      goes = record {
        part = λ later more p. (
          account ∷ p.0,
          ((is, kept later p.0 p.1.0), ap (λ l. entry (old.frames + 1) account ++ l) p.1.1 ∙ entries_on old new text text' account p.0 noted),
        );
        out = λ later more p. (
          account ∷ p.0,
          (
            (is, kept later p.0 p.1.0),
            ap (λ l. entry (old.frames + 1) account ++ l) p.1.1 ∙ sym (append_assoc (entry (old.frames + 1) account) (entries (new.frames + 1) p.0) (last_line new.frames new.accepted new.ended p.0))
                ∙ ap (λ l. l ++ last_line new.frames new.accepted new.ended p.0) (entries_on old new text text' account p.0 noted)
                ∙ ap (λ l. entries (old.frames + 1) (account ∷ p.0) ++ l) (last_on old new text text' account p.0 noted),
          ),
        );
      };
    }

-- ---- what the reader lends

pub head_is : (started : Bool) (head other : RecordHead) → started ≡ true → (if started then Some head else None) ≡ Some other → head ≡ other
head_is true head other e same = cc
head_is false head other e same = cc

-- the frame that is whole was noted
pub frame_told : (reader : Reading) (bytes : List ℕ) (head : RecordHead) (frame : Frame) (lent : RecordHead) (stamp : TimeStamp) (port : ℕ) (datagram : List ℕ) (old new : Report) (text text' : List ℕ)
    → (reader.started ≡ true) × (lent ≡ reader.head) → (reader.whole ≡ true) × (held_frame reader bytes ≡ record { stamp = stamp; port = port; datagram = datagram })
    → (record_reads reader).head ≡ Some head → (record_reads reader).frame bytes frame
    → (account : Account) × IsAccount old.listing lent datagram account × IsNoted old new text text' account
    → Puts head (frame ∷ []) text text' (told_by old) (told_by new)
frame_told reader bytes head frame lent stamp port datagram old new text text' has_head has_frame known whole noted =
    let same_head : lent ≡ head = has_head.1 ∙ head_is reader.started reader.head head has_head.0 known in
    let same_frame : datagram ≡ frame.datagram = ap (λ (f : Frame). f.datagram) (sym has_frame.1 ∙ sym whole.1.0) in
    noted_on head frame old new text text' noted.0
    (subst (λ (h : RecordHead). IsAccount old.listing h frame.datagram noted.0) same_head (subst (λ d. IsAccount old.listing lent d noted.0) same_frame noted.1)) noted.2

-- ---- a report of no frame

-- what it tells is the text of a record
begun_retells : (listing : Listing) → Retells (told_from listing 0 0 false) (told_of listing)
begun_retells listing = record {
  part = λ head frames text p. p;
  out = λ head frames text p. (p.0, (p.1.0, p.1.1 ∙ ap (λ l. entries 1 p.0 ++ l) (whole p.0)));
  wants = refl;
} where
  whole : (accounts : List Account) → counts (0 + length accounts) (0 + count_by is_accepted accounts) ≡ summary accounts
  whole accounts = ap (λ n. counts n (0 + count_by is_accepted accounts)) (none_plus (length accounts)) ∙ ap (counts (length accounts)) (none_plus (count_by is_accepted accounts)) where
    none_plus : (n : ℕ) → 0 + n ≡ n
    none_plus n = omega arith

pub begun_told : (listing : Listing) (most : ℕ) (status : Status) (moves : Moves) (report : Report) → report.listing ≡ listing → report.frames ≡ 0 → report.accepted ≡ 0 → report.ended ≡ false
    → IsOutcome status (record { most = most; grammar = record_grammar; tells = told_by report }) moves
    → IsOutcome status (record { most = most; grammar = record_grammar; tells = told_of listing }) moves
begun_told listing most status moves report a b c d o =
    outcome_retold most record_grammar (told_from listing 0 0 false) (told_of listing) (begun_retells listing) status moves
    (subst (λ (l : Listing). IsOutcome status (record { most = most; grammar = record_grammar; tells = told_from l 0 0 false }) moves) a
    (subst (λ n. IsOutcome status (record { most = most; grammar = record_grammar; tells = told_from report.listing n 0 false }) moves) b
    (subst (λ n. IsOutcome status (record { most = most; grammar = record_grammar; tells = told_from report.listing report.frames n false }) moves) c
    (subst (λ (e : Bool). IsOutcome status (record { most = most; grammar = record_grammar; tells = told_from report.listing report.frames report.accepted e }) moves) d o))))
