-- How far the head of a file or a record has come, with a piece.
use Rattle.std.proofs.Common.{◌≡◌, ℕ, zero, suc, ◌+◌, ◌<◌, ◌≤◌, inl, inr, List, [], ◌++◌, length, take, drop, sym, ap, ◌∙◌, subst, append-nil, arith}
use Rattle.std.proofs.lemmas.Bool.{cases_order}
use Rattle.std.proofs.lemmas.List.{length-drop}
use Rattle.replay_form.proofs.Taking.{all_of_piece, two_parts}
use Rattle.pcap_frames.specs.CaptureFields.{AreRecordFields, IsFilePart, IsFileWrongAt, IsRecordPart, IsRecordWrongAt, IsWholeRecord, record_size}
use Rattle.pcap_frames.specs.Taking.{IsRecordBegun, IsRecordWhole, IsRecordMoved, IsRecordTaken}
use Rattle.pcap_frames.specs.declared.take.RecordTaken.{RecordTaken}
use Rattle.pcap_frames.specs.declared.take.RecordTaken.TheVariants as records
use Rattle.pcap_frames.specs.declared.form.FileForm.{FileForm}
use Rattle.pcap_frames.proofs.FieldLaws.{file_wrong-append, record_fields-append, record_fields-to, record_size-append, record_wrong-append}

-- what is wrong in a part of the piece is wrong in all of it
pub file_wrong_in_piece : (old piece new : List ℕ) (n offset : ℕ) → new ≡ old ++ take n piece → IsFileWrongAt new offset → IsFileWrongAt (old ++ piece) offset
file_wrong_in_piece old piece new n offset e wrong =
    subst (λ xs. IsFileWrongAt xs offset) (all_of_piece old piece new n e) (file_wrong-append new (drop n piece) offset wrong)

pub record_wrong_in_piece : (form : FileForm) (old piece new : List ℕ) (n offset : ℕ) → new ≡ old ++ take n piece → IsRecordWrongAt form new offset
    → IsRecordWrongAt form (old ++ piece) offset
record_wrong_in_piece form old piece new n offset e wrong =
    subst (λ xs. IsRecordWrongAt form xs offset) (all_of_piece old piece new n e) (record_wrong-append form new (drop n piece) offset wrong)

-- a part of a head is not whole yet
pub file_takes_some : (old piece new : List ℕ) (count : ℕ) → IsFilePart old → new ≡ old ++ take count piece → length new ≡ 24 → 0 < count
file_takes_some old piece new zero part e all =
    let same : new ≡ old = e ∙ append-nil old in
    absurd (omega (arith, part.short, ap length same))
file_takes_some old piece new (suc n) part e all = omega arith

-- a record that has begun goes on
pub record_begins : (form : FileForm) (old piece new : List ℕ) (n : ℕ) → new ≡ old ++ take n piece → IsRecordPart form old → (length old ≤ 16 → length new ≤ 16)
    → (16 ≤ length old → n ≡ 0) → 16 ≤ length new → AreRecordFields form (length new) new → IsRecordBegun form new
record_begins form old piece new n e part short none there right = record {
  there = there;
  within = elim (cases_order (length old) 16) [
    | inl same ↦ (let k = short (omega arith) in omega arith)
    | inr (inl less) ↦ (let k = short (omega arith) in omega arith)
    | inr (inr more) ↦ (
        let zero_ : n ≡ 0 = none (omega arith) in
        let stays : new ≡ old = e ∙ ap (λ k. old ++ take k piece) zero_ ∙ append-nil old in
        let h : length old ≤ record_size form old = (let k = part.short in omega arith) in
        subst (λ xs. length xs ≤ record_size form xs) (sym stays) h
        )
  ];
  right = record_fields-to form (length new) 16 new (omega arith) right;
}

pub record_resumes : (form : FileForm) (old more new : List ℕ) → new ≡ old ++ more → IsRecordBegun form old → AreRecordFields form 16 new
record_resumes form old more new e begun =
    subst (λ xs. AreRecordFields form 16 xs) (sym e) (record_fields-append form 16 old more begun.there begun.right)

pub record_grown : (form : FileForm) (old more new : List ℕ) → new ≡ old ++ more → IsRecordBegun form old → record_size form new ≡ record_size form old
record_grown form old more new e begun = ap (record_size form) e ∙ record_size-append form old more (omega (arith, begun.there))

-- what the rest of a piece made of the captured bytes
pub whole_of_captured : (form : FileForm) (old piece rest mid new : List ℕ) (n count : ℕ) → n ≤ length piece → mid ≡ old ++ take n piece → rest ≡ drop n piece
    → IsRecordWhole form mid rest new count → IsRecordWhole form old piece new (n + count)
whole_of_captured form old piece rest mid new n count h e f taken = record {
  few = omega (arith, taken.few, ap length f, length-drop n piece);
  held = two_parts old piece mid new n count e (taken.held ∙ ap (λ xs. mid ++ take count xs) f);
  whole = taken.whole;
}

-- a part of a record is not whole yet
pub record_takes_some : (form : FileForm) (old piece new : List ℕ) (count : ℕ) → IsRecordPart form old → new ≡ old ++ take count piece → IsWholeRecord form new → 0 < count
record_takes_some form old piece new zero part e whole =
    let same : new ≡ old = e ∙ append-nil old in
    let long : length old ≡ record_size form old = subst (λ xs. length xs ≡ record_size form xs) same whole.all in
    absurd (omega (arith, part.short))
record_takes_some form old piece new (suc n) part e whole = omega arith

-- where nothing is held and no record stands in the piece alone, none is whole
pub moved_taken : (form : FileForm) (old piece : List ℕ) (taken : RecordTaken) (new : List ℕ) → old ≡ [] → ((n : ℕ) → n ≤ length piece → ¬ IsWholeRecord form (take n piece))
    → IsRecordMoved form old piece taken new → IsRecordTaken form old piece taken new
moved_taken form old piece records.Part new none no_record is = is
moved_taken form old piece (records.Whole count) new none no_record is =
    absurd (no_record count is.few (subst (IsWholeRecord form) (is.held ∙ ap (λ xs. xs ++ take count piece) none) is.whole))
