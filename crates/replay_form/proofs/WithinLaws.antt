-- Bytes of which the first ones alone are judged have one verdict.
use Rattle.std.proofs.Common.{◌≡◌, ℕ, ◌≤◌, inl, inr, List, [], ◌∷◌, length, take, sym, ◌∙◌, subst, take_all, arith}
use Rattle.replay_form.specs.FrameFields.{Frame}
use Rattle.replay_form.specs.Record.{IsOpen}
use Rattle.replay_form.specs.Verdict.{HasNoFault, HasFaultAt}
use Rattle.replay_form.specs.Grammar.{IsBad, IsLonger, IsWhole}
use Rattle.replay_form.specs.RecordGrammar.{record_grammar}
use Rattle.replay_form.specs.declared.record_head.RecordHead.{RecordHead}
use Rattle.replay_form.proofs.VerdictLaws as laws

-- what goes on is open behind a whole frame, which is a record, or inside
open_is : (head : RecordHead) (frames : List Frame) (rest bytes : List ℕ) (offset : ℕ) → IsOpen head frames rest bytes → ¬ HasFaultAt bytes offset
open_is head frames [] bytes offset o wrong = laws.record_not_wrong head frames wrong.0 bytes offset o.cut wrong.1
open_is head frames (b ∷ rest) bytes offset o wrong =
    laws.wrong_not_inside wrong.0 bytes offset wrong.1 (inr (head, (frames, (b ∷ rest, (omega arith, o)))))

no_fault_not_wrong : (bytes : List ℕ) (offset : ℕ) → HasNoFault bytes → ¬ HasFaultAt bytes offset
no_fault_not_wrong bytes offset (inl part) wrong = laws.wrong_not_inside wrong.0 bytes offset wrong.1 (inl part)
no_fault_not_wrong bytes offset (inr o) wrong = open_is o.0 o.1.0 o.1.1.0 bytes offset o.1.1.1 wrong

-- where all are judged
all_judged : (most : ℕ) (bytes : List ℕ) (offset : ℕ) → length bytes ≤ most → HasFaultAt (take most bytes) offset → HasFaultAt bytes offset
all_judged most bytes offset within wrong = subst (λ l. HasFaultAt l offset) (take_all most bytes within) wrong

pub one_place : (most : ℕ) (bytes : List ℕ) (a b : ℕ) → IsBad record_grammar most bytes a → IsBad record_grammar most bytes b → a ≡ b
one_place most bytes a b (inl p) (inl q) = laws.one_place p.0 q.0 (take most bytes) a b p.1 q.1
one_place most bytes a b (inl p) (inr q) =
    let wrong = all_judged most bytes a q.0 p in absurd (laws.wrong_not_inside wrong.0 bytes a wrong.1 q.1.0)
one_place most bytes a b (inr p) (inl q) =
    let wrong = all_judged most bytes b p.0 q in absurd (laws.wrong_not_inside wrong.0 bytes b wrong.1 p.1.0)
one_place most bytes a b (inr p) (inr q) = p.1.1 ∙ sym q.1.1

pub bad_not_longer : (most : ℕ) (bytes : List ℕ) (offset : ℕ) → IsBad record_grammar most bytes offset → ¬ IsLonger record_grammar most bytes
bad_not_longer most bytes offset (inl p) longer = no_fault_not_wrong (take most bytes) offset longer.sound p
bad_not_longer most bytes offset (inr p) longer = omega (arith, p.0, longer.more)

pub bad_not_whole : (most : ℕ) (bytes : List ℕ) (offset : ℕ) → IsBad record_grammar most bytes offset → ¬ IsWhole record_grammar most bytes
bad_not_whole most bytes offset (inl p) whole =
    let wrong = all_judged most bytes offset whole.within p in
    laws.record_not_wrong whole.whole.0 whole.whole.1.0 wrong.0 bytes offset whole.whole.1.1 wrong.1
bad_not_whole most bytes offset (inr p) whole = laws.record_not_inside whole.whole.0 whole.whole.1.0 bytes whole.whole.1.1 p.1.0

pub longer_not_whole : (most : ℕ) (bytes : List ℕ) → IsLonger record_grammar most bytes → ¬ IsWhole record_grammar most bytes
longer_not_whole most bytes longer whole = omega (arith, longer.more, whole.within)
