-- Texts on their way to a sink.
use Rattle.std.proofs.Common.{◌≡◌, ℕ, ◌+◌, ◌≤◌, Bool, true, false, List, [], ◌++◌, length, take, refl, sym, ap, ◌∙◌, subst, append_assoc, append-nil, length-append, arith}
use Rattle.std.specs.Prelude.{Option, Result, Ok, Err, OnOk, OnErr, is_err}
use Rattle.std.specs.Io.KnownBytes.{Appends}
use Rattle.std.proofs.KnownBytes.{Appends-trans}
use Rattle.std.proofs.Math.Seq.{take-append-add}
use Rattle.std.proofs.lemmas.List.{take-append-le}
use Rattle.difi_io.specs.Faults.{HasCause}
use Rattle.difi_io.proofs.FaultLaws.{Rose-later}
use Rattle.record_run.specs.Progress.{IsCutOff, IsSent}

-- a text that grows at its end waits with what it grew by
pub sent_more : (failed : Bool) (start held : Option (List ℕ)) (before now : ℕ) (waiting text more : List ℕ)
    → IsSent failed start held before now waiting text → IsSent failed start held before now (waiting ++ more) (text ++ more)
sent_more false start held before now waiting text more s =
    (s.0, (s.1.0, (ap (λ l. l ++ more) s.1.1.0 ∙ append_assoc s.0 waiting more, s.1.1.1)))
sent_more true start held before now waiting text more s =
    (s.0, (omega (arith, s.1.0, length-append text more), (subst (Appends start held) (sym (take-append-le s.0 text more s.1.0)) s.1.1.0, s.1.1.1)))

-- what waited was written, or a first part of it was
pub sent_on : {E : Type 0} (result : Result Unit E) (start held held' : Option (List ℕ)) (before now now' : ℕ) (waiting text : List ℕ)
    → IsSent false start held before now waiting text
    → OnOk result (Appends held held' waiting) → OnErr result ((n : ℕ) × (n ≤ length waiting) × Appends held held' (take n waiting))
    → HasCause now now' result → IsSent (is_err result) start held' before now' [] text
sent_on (Ok done) start held held' before now now' waiting text s all front cause =
    (s.0 ++ waiting, (Appends-trans start held held' s.0 waiting s.1.0 all, (s.1.1.0 ∙ sym (append-nil (s.0 ++ waiting)), cause.kept ∙ s.1.1.1)))
sent_on (Err failed) start held held' before now now' waiting text s all front cause =
    let n = front.0 in
    let same : take (length s.0 + n) text ≡ s.0 ++ take n waiting =
    ap (take (length s.0 + n)) s.1.1.0 ∙ take-append-add s.0 waiting n in (
      length s.0 + n,
      (
        omega (arith, front.1, ap length s.1.1.0, length-append s.0 waiting),
        (
          subst (Appends start held') (sym same) (Appends-trans start held held' s.0 (take n waiting) s.1.0 front.2),
          Rose-later before now now' (omega (arith, s.1.1.1)) (cause.failed refl),
        ),
      ),
    )

-- where nothing waits and no write failed, all was written
pub sent_whole : (failed : Bool) (start held : Option (List ℕ)) (before now : ℕ) (waiting text : List ℕ) → failed ≡ false → waiting ≡ []
    → IsSent failed start held before now waiting text → Appends start held text
sent_whole false start held before now waiting text e none s =
    subst (Appends start held) (sym (s.1.1.0 ∙ ap (λ l. s.0 ++ l) none ∙ append-nil s.0)) s.1.0
sent_whole true start held before now waiting text e none s = cc

pub sent_cut : (failed : Bool) (start held : Option (List ℕ)) (before now : ℕ) (waiting text : List ℕ) → failed ≡ true
    → IsSent failed start held before now waiting text → IsCutOff start held before now text
sent_cut true start held before now waiting text e s = s
sent_cut false start held before now waiting text e s = cc

-- ---- equal values for equal ones

pub same_sent : (failed failed' : Bool) (start held held' : Option (List ℕ)) (before now now' : ℕ) (waiting waiting' text : List ℕ)
    → failed' ≡ failed → held' ≡ held → now' ≡ now → waiting' ≡ waiting
    → IsSent failed start held before now waiting text → IsSent failed' start held' before now' waiting' text
same_sent failed failed' start held held' before now now' waiting waiting' text a b c d s =
    subst (λ l. IsSent failed' start held' before now' l text) (sym d)
    (subst (λ n. IsSent failed' start held' before n waiting text) (sym c)
    (subst (λ h. IsSent failed' start h before now waiting text) (sym b)
    (subst (λ (f : Bool). IsSent f start held before now waiting text) (sym a) s)))

-- a text that was cut off does not go on
pub sent_dropped : (failed failed' : Bool) (start held held' : Option (List ℕ)) (before now now' : ℕ) (waiting waiting' text : List ℕ)
    → failed ≡ true → failed' ≡ failed → held' ≡ held → now' ≡ now
    → IsSent failed start held before now waiting text → IsSent failed' start held' before now' waiting' text
sent_dropped true failed' start held held' before now now' waiting waiting' text e a b c s =
    same_sent true failed' start held held' before now now' waiting' waiting' text a b c refl s
sent_dropped false failed' start held held' before now now' waiting waiting' text e a b c s = cc
