-- Bytes have one text for each listing.
use Rattle.std.proofs.Common.{◌≡◌, ℕ, inl, inr, List, ◌++◌, sym, ap, ◌∙◌, subst}
use Rattle.replay_form.specs.FrameFields.{Frame}
use Rattle.replay_form.specs.declared.record_head.RecordHead.{RecordHead}
use Rattle.replay_form.proofs.VerdictLaws.{one_standing, not_headless, record_stands}
use Rattle.difi_texts.specs.declared.lines.Listing.{Listing}
use Rattle.difi_texts.specs.Lines.{Account, entries, summary}
use Rattle.difi_cmd.specs.Text.{AreAccounts, IsPart, IsOutput}
use Rattle.difi_cmd.proofs.TextLaws.{one_accounts}

one_told : (listing : Listing) (a b : RecordHead) (fs gs : List Frame) (told others : List Account) → (a ≡ b) × (fs ≡ gs) → AreAccounts listing a fs told
    → AreAccounts listing b gs others → told ≡ others
one_told listing a b fs gs told others same p q =
    one_accounts listing b gs told others (subst (λ l. AreAccounts listing b l told) same.1 (subst (λ (h : RecordHead). AreAccounts listing h fs told) same.0 p)) q

-- bytes have one text so far
pub one_part : (listing : Listing) (bytes text other : List ℕ) → IsPart listing bytes text → IsPart listing bytes other → text ≡ other
one_part listing bytes text other (inl p) (inl q) = p.1 ∙ sym q.1
one_part listing bytes text other (inl p) (inr q) = absurd (not_headless q.0 q.1.0 bytes q.1.1.0 p.0)
one_part listing bytes text other (inr p) (inl q) = absurd (not_headless p.0 p.1.0 bytes p.1.1.0 q.0)
one_part listing bytes text other (inr p) (inr q) =
    let same = one_standing p.0 q.0 p.1.0 q.1.0 bytes p.1.1.0 q.1.1.0 in
    p.1.1.1.1.1 ∙ ap (entries 1) (one_told listing p.0 q.0 p.1.0 q.1.0 p.1.1.1.0 q.1.1.1.0 same p.1.1.1.1.0 q.1.1.1.1.0) ∙ sym q.1.1.1.1.1

-- a record has one text
pub one_output : (listing : Listing) (bytes text other : List ℕ) → IsOutput listing bytes text → IsOutput listing bytes other → text ≡ other
one_output listing bytes text other p q =
    let same = one_standing p.0 q.0 p.1.0 q.1.0 bytes (record_stands p.0 p.1.0 bytes p.1.1.0) (record_stands q.0 q.1.0 bytes q.1.1.0) in
    p.1.1.1.1.1 ∙ ap (λ l. entries 1 l ++ summary l) (one_told listing p.0 q.0 p.1.0 q.1.0 p.1.1.1.0 q.1.1.1.0 same p.1.1.1.1.0 q.1.1.1.1.0) ∙ sym q.1.1.1.1.1
