-- What replay writes is true of the record that was read.
use Rattle.std.proofs.Common.{◌≡◌, ◌==◌, ℕ, Bool, List, ◌++◌, Option, Some, None, sym, ap, ◌∙◌, subst, append-nil}
use Rattle.std.specs.Io.KnownBytes.{Appends, Consumes, IsAtEnd}
use Rattle.vrt_words.specs.Words.{AreBytes}
use Rattle.vrt_fields.specs.Route.{AreRoutes}
use Rattle.replay_form.specs.FrameFields.{Frame}
use Rattle.replay_form.specs.declared.record_head.RecordHead.{RecordHead}
use Rattle.replay_form.proofs.VerdictLaws.{one_record}
use Rattle.record_run.specs.Outcome.{IsCause, IsDone, IsOutcome, Moves}
use Rattle.record_run.specs.declared.status.Status.{Status}
use Rattle.record_run.specs.declared.status.Status.TheVariants.{Done, Usage, ReadFault, WriteFault, Memory, BadRecord, TooLong}
use Rattle.difi_gateway.specs.Contents.{Received, AreReceived}
use Rattle.difi_gateway.specs.Releases.{AreRecordsOf, IsOutOf, out_of}
use Rattle.difi_gateway.specs.Replayed.{replay_of}
use Rattle.difi_gateway.specs.TrueText.{IsTrueOf, IsTrueReplay, IsTrueText}
use Rattle.difi_gateway.proofs.FirstArrivals.{first_taken}
use Rattle.difi_gateway.proofs.OneReading.{one_received}
use Rattle.difi_gateway.proofs.RunTexts.{routes_of_record}
use Rattle.difi_gateway.proofs.TrueReleases.{releases_true}

pub out_true : (head : RecordHead) (second : Bool) (frames : List Frame) (received : List Received) (text : List ℕ) → AreRoutes second head.routes
    → AreReceived head frames received → IsOutOf head frames text → IsTrueText head received text
out_true head second frames received text routes are h = record {
  releases = out_of head received;
  records = subst (λ rs. AreRecordsOf (out_of head rs) text) (one_received head frames h.0 received h.1.0 are) h.1.1;
  are_true = releases_true head second received routes;
  first_taken = first_taken head received are.contents;
}

bytes_true : (most : ℕ) (bytes text : List ℕ) (moves : Moves) → IsDone (replay_of most) bytes text moves → AreBytes bytes → IsTrueOf bytes text
bytes_true most bytes text moves done fit head frames received is are =
    let o = done.output in
    let same = one_record o.0 head o.1.0 frames bytes o.1.1.0 is in
    out_true head (head.form == 2) frames received text (routes_of_record head frames bytes fit is) are
    (subst (λ (h : RecordHead). IsOutOf h frames text) same.0 (subst (λ fs. IsOutOf o.0 fs text) same.1 o.1.1.1))

-- all that a source told was taken, and what a sink held has the text behind it
all_taken : (left now : Option (List ℕ)) (bytes taken : List ℕ) → left ≡ Some bytes → Consumes left now taken → IsAtEnd now → taken ≡ bytes
all_taken None now bytes taken e c h = absurd (cc)
all_taken (Some xs) None bytes taken e c h = absurd c
all_taken (Some xs) (Some ys) bytes taken e c h =
    let same : xs ≡ bytes = cc in
    sym (append-nil taken) ∙ ap (λ zs. taken ++ zs) (sym h) ∙ sym c ∙ same

all_held : (held now : Option (List ℕ)) (before text : List ℕ) → held ≡ Some before → Appends held now text → now ≡ Some (before ++ text)
all_held None now before text e c = absurd (cc)
all_held (Some xs) None before text e c = absurd c
all_held (Some xs) (Some ys) before text e c =
    let same : xs ≡ before = cc in
    ap Some (c ∙ ap (λ zs. zs ++ text) same)

is_done : (status : Status) (most : ℕ) (bytes text : List ℕ) (moves : Moves) → IsCause status (replay_of most) bytes text moves → status ≡ Done → IsDone (replay_of most) bytes text moves
is_done Done most bytes text moves cause e = cause
is_done Usage most bytes text moves cause e = absurd (cc)
is_done ReadFault most bytes text moves cause e = absurd (cc)
is_done WriteFault most bytes text moves cause e = absurd (cc)
is_done Memory most bytes text moves cause e = absurd (cc)
is_done (BadRecord offset) most bytes text moves cause e = absurd (cc)
is_done TooLong most bytes text moves cause e = absurd (cc)

pub done_true : (status : Status) (most : ℕ) (moves : Moves) → IsOutcome status (replay_of most) moves → status ≡ Done → IsTrueReplay moves
done_true status most moves outcome e bytes before left held fit =
    let done = is_done status most outcome.bytes outcome.text moves outcome.cause e in
    let same : outcome.bytes ≡ bytes = all_taken moves.left moves.left_now bytes outcome.bytes left outcome.taken done.at_end in
    let truth = bytes_true most outcome.bytes outcome.text moves done (subst AreBytes (sym same) fit) in
    (outcome.text, all_held moves.held moves.held_now before outcome.text held outcome.written, subst (λ bs. IsTrueOf bs outcome.text) same truth)
