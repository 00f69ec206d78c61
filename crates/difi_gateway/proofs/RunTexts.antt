-- What is told of bytes begins what is told of more of them, and the records of a stream are those of its own frames.
use Rattle.std.proofs.Common.{◌≡◌, ◌==◌, ℕ, zero, suc, inl, inr, List, [], ◌∷◌, ◌++◌, take, drop, map, refl, sym, ap, ◌∙◌, subst, append_assoc, take_all, arith}
use Rattle.vrt_words.specs.Words.{AreBytes}
use Rattle.vrt_fields.specs.Route.{AreRoutes}
use Rattle.replay_form.specs.FrameFields.{Frame}
use Rattle.replay_form.specs.Record.{IsRecord}
use Rattle.replay_form.specs.Standing.{HasFrames}
use Rattle.replay_form.specs.declared.record_head.RecordHead.{RecordHead}
use Rattle.replay_form.proofs.HeadValues.{values_by_spelled}
use Rattle.replay_form.proofs.VerdictLaws.{one_record, one_standing, standing_stays, not_headless, not_headless_later, record_stands}
use Rattle.record_run.specs.Outcome.{IsCause, IsJudgedPart, IsOutcome, IsOutput, IsPart, Moves}
use Rattle.record_run.specs.declared.status.Status.{Status}
use Rattle.record_run.specs.declared.status.Status.TheVariants.{Done, Usage, ReadFault, WriteFault, Memory, BadRecord, TooLong}
use Rattle.difi_gateway.specs.Contents.{Received, AreReceived, frame_of}
use Rattle.difi_gateway.specs.Isolation.{AreStreamRecords, only}
use Rattle.difi_gateway.specs.Releases.{IsPartOf, IsOutOf, out_of, part_of}
use Rattle.difi_gateway.specs.Replayed.{AreOwnFrames, Begins, BeginsEach, IsCutShort, IsReplayed, KeepsStreamsApart, replay_of}
use Rattle.difi_gateway.proofs.Growth.{part_in_part, part_in_out}
use Rattle.difi_gateway.proofs.OneReading.{one_received}
use Rattle.difi_gateway.proofs.OneStream.{only_received, own_bytes, own_part_bytes, some_records}

-- ---- more bytes

same_head : (h i : RecordHead) (fs gs later : List Frame) (text : List ℕ) (IsText : RecordHead → List Frame → List ℕ → Type 0) → h ≡ i → gs ≡ fs ++ later → IsText i gs text → IsText h (fs ++ later) text
same_head h i fs gs later text IsText e f t = subst (λ l. IsText h l text) f (subst (λ (head : RecordHead). IsText head gs text) (sym e) t)

part_on : (most : ℕ) (bytes more a b : List ℕ) → IsPart (replay_of most) bytes a → IsPart (replay_of most) (bytes ++ more) b → Begins a b
part_on most bytes more a b (inl none) q = (b, ap (λ xs. xs ++ b) (sym none.1))
part_on most bytes more a b (inr p) (inl none) = absurd (not_headless_later p.0 p.1.0 bytes more p.1.1.0 none.0)
part_on most bytes more a b (inr p) (inr q) =
    let s = standing_stays p.0 q.0 p.1.0 q.1.0 bytes more p.1.1.0 q.1.1.0 in
    part_in_part p.0 p.1.0 s.1.0 a b p.1.1.1 (same_head p.0 q.0 p.1.0 q.1.0 s.1.0 b IsPartOf s.0 s.1.1 q.1.1.1)

whole_on : (most : ℕ) (bytes more a b : List ℕ) → IsPart (replay_of most) bytes a → IsOutput (replay_of most) (bytes ++ more) b → Begins a b
whole_on most bytes more a b (inl none) q = (b, ap (λ xs. xs ++ b) (sym none.1))
whole_on most bytes more a b (inr p) q =
    let s = standing_stays p.0 q.0 p.1.0 q.1.0 bytes more p.1.1.0 (record_stands q.0 q.1.0 (bytes ++ more) q.1.1.0) in
    part_in_out p.0 p.1.0 s.1.0 a b p.1.1.1 (same_head p.0 q.0 p.1.0 q.1.0 s.1.0 b IsOutOf s.0 s.1.1 q.1.1.1)

pub part_begins_each : (most : ℕ) (bytes text : List ℕ) → IsPart (replay_of most) bytes text → BeginsEach (replay_of most) bytes text
part_begins_each most bytes text p = record {
  part = λ more all q. part_on most bytes more text all p q;
  whole = λ more all q. whole_on most bytes more text all p q;
}

front_and_rest : (n : ℕ) (xs : List ℕ) → take n xs ++ drop n xs ≡ xs
front_and_rest zero xs = refl
front_and_rest (suc n) [] = refl
front_and_rest (suc n) (x ∷ xs) = ap (λ ys. x ∷ ys) (front_and_rest n xs)

judged_begins_each : (most : ℕ) (bytes text : List ℕ) → IsJudgedPart (replay_of most) bytes text → BeginsEach (replay_of most) bytes text
judged_begins_each most bytes text p =
    let split = λ (more : List ℕ). ap (λ xs. xs ++ more) (sym (front_and_rest most bytes)) ∙ append_assoc (take most bytes) (drop most bytes) more in
    record {
      part = λ more all q. part_on most (take most bytes) (drop most bytes ++ more) text all p (subst (λ xs. IsPart (replay_of most) xs all) (split more) q);
      whole = λ more all q. whole_on most (take most bytes) (drop most bytes ++ more) text all p (subst (λ xs. IsOutput (replay_of most) xs all) (split more) q);
    }

cause_begins : (status : Status) (most : ℕ) (bytes text : List ℕ) (moves : Moves) → IsCause status (replay_of most) bytes text moves → IsCutShort status
    → BeginsEach (replay_of most) bytes text
cause_begins Done most bytes text moves cause short = absurd short
cause_begins Usage most bytes text moves cause short = absurd short
cause_begins WriteFault most bytes text moves cause short = absurd short
cause_begins Memory most bytes text moves cause short = absurd short
cause_begins ReadFault most bytes text moves cause short = part_begins_each most bytes text cause.part
cause_begins (BadRecord offset) most bytes text moves cause short = judged_begins_each most bytes text cause.part
cause_begins TooLong most bytes text moves cause short = judged_begins_each most bytes text cause.part

-- ---- one stream

-- its frames alone hold what they hold among the others
own_received : (head : RecordHead) (stream : ℕ) (frames own : List Frame) (received alone : List Received) → AreReceived head frames received → AreOwnFrames head stream frames own
    → AreReceived head own alone → alone ≡ only stream received
own_received head stream frames own received alone are f are' =
    let same = one_received head frames f.0 received f.1.0 are in
    let here : own ≡ map frame_of (only stream received) = f.1.1 ∙ ap (λ rs. map frame_of (only stream rs)) same in
    one_received head own alone (only stream received) are'
    (subst (λ fs. AreReceived head fs (only stream received)) (sym here) (only_received head stream frames received are))

module _ (head : RecordHead) (frames : List Frame) (text : List ℕ) where
  pub part_apart : IsPartOf head frames text → KeepsStreamsApart part_of head frames text
  part_apart h = record {
    there = λ stream. let s = some_records stream (part_of head h.0) text h.1.1 in (s.0, (h.0, (h.1.0, s.1)));
    same = λ stream own alone part other f p q.
        let e = own_received head stream frames own p.0 q.0 p.1.0 f q.1.0 in
        own_part_bytes head stream p.0 text alone part other p.1.1 (subst (λ rs. AreStreamRecords stream (part_of head rs) alone other) e q.1.1);
  }

  pub out_apart : (second : _) → AreRoutes second head.routes → IsOutOf head frames text → KeepsStreamsApart out_of head frames text
  out_apart second routes h = record {
    there = λ stream. let s = some_records stream (out_of head h.0) text h.1.1 in (s.0, (h.0, (h.1.0, s.1)));
    same = λ stream own alone part other f p q.
        let e = own_received head stream frames own p.0 q.0 p.1.0 f q.1.0 in
        own_bytes head second stream p.0 text alone part other routes p.1.1 (subst (λ rs. AreStreamRecords stream (out_of head rs) alone other) e q.1.1);
  }

AreBytes-front : (xs ys : List ℕ) → AreBytes (xs ++ ys) → AreBytes xs
AreBytes-front [] ys h i = omega arith
AreBytes-front (x ∷ xs) ys h zero = h 0
AreBytes-front (x ∷ xs) ys h (suc i) = AreBytes-front xs ys (λ k. h (suc k)) i

pub routes_of_record : (head : RecordHead) (frames : List Frame) (bytes : List ℕ) → AreBytes bytes → IsRecord head frames bytes → AreRoutes (head.form == 2) head.routes
routes_of_record head frames bytes fit is =
    (values_by_spelled head (record { bytes = is.header; fit = AreBytes-front is.header (is.body ++ []) (subst AreBytes is.whole fit); says = is.says })).routes

done_apart : (status : Status) (most : ℕ) (bytes text : List ℕ) (moves : Moves) → IsCause status (replay_of most) bytes text moves → status ≡ Done → AreBytes bytes
    → (head : RecordHead) (frames : List Frame) → IsRecord head frames bytes → KeepsStreamsApart out_of head frames text
done_apart Done most bytes text moves cause e fit head frames is =
    let o = cause.output in
    let same = one_record o.0 head o.1.0 frames bytes o.1.1.0 is in
    out_apart head frames text (head.form == 2) (routes_of_record head frames bytes fit is)
    (subst (λ (h : RecordHead). IsOutOf h frames text) same.0 (subst (λ fs. IsOutOf o.0 fs text) same.1 o.1.1.1))
done_apart Usage most bytes text moves cause e fit head frames is = absurd (cc)
done_apart ReadFault most bytes text moves cause e fit head frames is = absurd (cc)
done_apart WriteFault most bytes text moves cause e fit head frames is = absurd (cc)
done_apart Memory most bytes text moves cause e fit head frames is = absurd (cc)
done_apart (BadRecord offset) most bytes text moves cause e fit head frames is = absurd (cc)
done_apart TooLong most bytes text moves cause e fit head frames is = absurd (cc)

standing_part : (most : ℕ) (bytes text : List ℕ) (head : RecordHead) (frames : List Frame) → IsPart (replay_of most) bytes text → HasFrames head frames bytes → IsPartOf head frames text
standing_part most bytes text head frames (inl none) has = absurd (not_headless head frames bytes has none.0)
standing_part most bytes text head frames (inr p) has =
    let same = one_standing p.0 head p.1.0 frames bytes p.1.1.0 has in
    subst (λ (h : RecordHead). IsPartOf h frames text) same.0 (subst (λ fs. IsPartOf p.0 fs text) same.1 p.1.1.1)

so_far_apart : (status : Status) (most : ℕ) (bytes text : List ℕ) (moves : Moves) → IsCause status (replay_of most) bytes text moves → IsCutShort status
    → (head : RecordHead) (frames : List Frame) → HasFrames head frames (take most bytes) → KeepsStreamsApart part_of head frames text
so_far_apart Done most bytes text moves cause short head frames has = absurd short
so_far_apart Usage most bytes text moves cause short head frames has = absurd short
so_far_apart WriteFault most bytes text moves cause short head frames has = absurd short
so_far_apart Memory most bytes text moves cause short head frames has = absurd short
so_far_apart ReadFault most bytes text moves cause short head frames has =
    part_apart head frames text (standing_part most bytes text head frames cause.part (subst (HasFrames head frames) (take_all most bytes cause.within) has))
so_far_apart (BadRecord offset) most bytes text moves cause short head frames has =
    part_apart head frames text (standing_part most (take most bytes) text head frames cause.part has)
so_far_apart TooLong most bytes text moves cause short head frames has =
    part_apart head frames text (standing_part most (take most bytes) text head frames cause.part has)

pub all_replayed : (status : Status) (most : ℕ) (moves : Moves) → IsOutcome status (replay_of most) moves → IsReplayed status most moves
all_replayed status most moves outcome = record {
  outcome = outcome;
  begins = cause_begins status most outcome.bytes outcome.text moves outcome.cause;
  apart = done_apart status most outcome.bytes outcome.text moves outcome.cause;
  apart_so_far = so_far_apart status most outcome.bytes outcome.text moves outcome.cause;
}
