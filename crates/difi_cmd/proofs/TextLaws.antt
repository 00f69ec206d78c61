-- Each frame has one account.
use Rattle.std.proofs.Common.{◌≡◌, ℕ, List, [], ◌∷◌, refl, inl, inr, sym, ap, ◌∙◌, arith}
use Rattle.vrt_words.specs.Words.{words_of}
use Rattle.vrt_words.proofs.BeginLaws.{one_place}
use Rattle.difi_packet.specs.Packet.{PacketValue, IsPacket}
use Rattle.difi_packet.proofs.PacketLaws.{one_packet}
use Rattle.replay_form.specs.FrameFields.{Frame}
use Rattle.replay_form.specs.declared.record_head.RecordHead.{RecordHead}
use Rattle.difi_texts.specs.declared.lines.Judgement.{Judgement}
use Rattle.difi_texts.specs.declared.lines.Judgement.TheVariants.{Accepted, Refused, TooLarge}
use Rattle.difi_texts.specs.declared.lines.Listing.{Listing}
use Rattle.difi_texts.specs.Lines.{Account}
use Rattle.difi_cmd.specs.Text.{IsAccepted, IsTurnedAway, IsAccount, AreAccounts}
use Rattle.difi_texts.specs.Accounts.{account_of, turned_away}

-- a datagram has one account
one_turned : (head : RecordHead) (d : List ℕ) (j k : Judgement) → IsTurnedAway head d j → IsTurnedAway head d k → j ≡ k
one_turned head d (Refused v) (Refused w) p q = ap Refused (one_place (IsPacket head.profile) (words_of d) v w p.1.at q.1.at)
one_turned head d TooLarge TooLarge p q = refl
one_turned head d (Refused w) TooLarge p q = absurd (omega (arith, p.0, q))
one_turned head d TooLarge (Refused w) p q = absurd (omega (arith, q.0, p))
one_turned head d (Accepted j s) k p q = absurd p
one_turned head d j (Accepted k t) p q = absurd q

no_turned : (head : RecordHead) (d : List ℕ) (value : PacketValue) (j : Judgement) → IsAccepted head d value → ¬ IsTurnedAway head d j
no_turned head d value (Accepted k s) p q = q
no_turned head d value (Refused w) p q = q.1.no_packet value p.1
no_turned head d value TooLarge p q = omega (arith, p.0, q)

pub one_account : (listing : Listing) (head : RecordHead) (datagram : List ℕ) (a b : Account) → IsAccount listing head datagram a → IsAccount listing head datagram b → a ≡ b
one_account listing head d a b (inl p) (inl q) =
    p.1.1 ∙ ap (account_of listing) (one_packet head.profile p.0 q.0 (words_of d) p.1.0.1.packet q.1.0.1.packet) ∙ sym q.1.1
one_account listing head d a b (inr p) (inr q) = p.1.1 ∙ ap turned_away (one_turned head d p.0 q.0 p.1.0 q.1.0) ∙ sym q.1.1
one_account listing head d a b (inl p) (inr q) = absurd (no_turned head d p.0 q.0 p.1.0 q.1.0)
one_account listing head d a b (inr p) (inl q) = absurd (no_turned head d q.0 p.0 q.1.0 p.1.0)

pub one_accounts : (listing : Listing) (head : RecordHead) (frames : List Frame) (told others : List Account) → AreAccounts listing head frames told
    → AreAccounts listing head frames others → told ≡ others
one_accounts listing head [] [] [] p q = refl
one_accounts listing head [] [] (b ∷ others) p q = absurd q
one_accounts listing head [] (a ∷ told) others p q = absurd p
one_accounts listing head (f ∷ frames) [] others p q = absurd p
one_accounts listing head (f ∷ frames) (a ∷ told) [] p q = absurd q
one_accounts listing head (f ∷ frames) (a ∷ told) (b ∷ others) p q =
    let first = one_account listing head f.datagram a b p.0 q.0 in
    let rest = one_accounts listing head frames told others p.1 q.1 in
    ap (λ x. x ∷ told) first ∙ ap (λ l. b ∷ l) rest
