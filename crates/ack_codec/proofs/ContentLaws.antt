-- Laws of the content of acknowledgements: words are one content at most.
use Rattle.std.proofs.Common.{◌≡◌, ℕ, inl, inr, Bool, true, false, List, ◌∷◌, ◌++◌, length, Option, Some, None, refl, sym, ap, ◌∙◌, subst, append-nil, arith}
use Rattle.vrt_fields.specs.FieldSet.{mask_of, words_of_set, number_in_mask}
use Rattle.vrt_fields.proofs.FieldSetLaws.{one_set}
use Rattle.cam_field.specs.Cam.{IsForRole}
use Rattle.cam_field.specs.declared.cam.Cam.{Cam}
use Rattle.cam_field.specs.declared.modes.Role.TheVariants as roles
use Rattle.command_prologue.proofs.CommandPrologueLaws.{split_row, same_head}
use Rattle.command_prologue.specs.declared.prologue.CommandPrologue.{CommandPrologue}
use Rattle.ack_codec.specs.Responses.{AreResponses, listed_words}
use Rattle.ack_codec.proofs.ResponseLaws.{one_responses, length-listed_words}
use Rattle.ack_codec.specs.Ack.{front_of, front_of_report, front_of_state, kind_bit, AreAnnounced, report_words, IsReport, IsState, IsContent}
use Rattle.ack_codec.specs.declared.responses.Responses.{Responses}
use Rattle.ack_codec.specs.declared.ack.Ack.{Ack}
use Rattle.ack_codec.specs.declared.ack.Ack.TheVariants.{V, X, S}
use Rattle.ack_codec.specs.declared.ack.AckReport.{AckReport}
use Rattle.ack_codec.specs.declared.ack.AckState.{AckState}

-- ---- the kind

-- of the three bits one is set
pub kind_v : (cam : Cam) → IsForRole roles.Ack cam → cam.v ≡ true → (cam.x ≡ false) × (cam.s ≡ false)
kind_v cam (inl a) e = (a.kind.x, a.kind.s)
kind_v cam (inr (inl b)) e = absurd (cc (b.v))
kind_v cam (inr (inr c)) e = absurd (cc (c.kind.v))

pub kind_x : (cam : Cam) → IsForRole roles.Ack cam → cam.x ≡ true → (cam.v ≡ false) × (cam.s ≡ false)
kind_x cam (inl a) e = absurd (cc (a.kind.x))
kind_x cam (inr (inl b)) e = (b.v, b.s)
kind_x cam (inr (inr c)) e = absurd (cc (c.kind.x))

-- ---- responses that are announced

pub announced_none : (told : Option Responses) → AreAnnounced false told → told ≡ None
announced_none None h = refl
announced_none (Some responses) h = absurd h

pub announced_some : (told : Option Responses) → AreAnnounced true told → (responses : Responses) × ((told ≡ Some responses) × AreResponses responses)
announced_some None h = absurd h
announced_some (Some responses) h = (responses, (refl, h))

one_part : (a b : Responses) → AreResponses a → AreResponses b → a.cif0 ∷ listed_words a ≡ b.cif0 ∷ listed_words b → a ≡ b
one_part a b p q e =
    let parts = same_head a.cif0 b.cif0 (listed_words a) (listed_words b) e in
    one_responses a b p q parts.0 parts.1

one_both : (a b c d : Responses) → AreResponses a → AreResponses b → AreResponses c → AreResponses d
    → a.cif0 ∷ c.cif0 ∷ (listed_words a ++ listed_words c) ≡ b.cif0 ∷ d.cif0 ∷ (listed_words b ++ listed_words d) → (a ≡ b) × (c ≡ d)
one_both a b c d p q r s e =
    let first = same_head a.cif0 b.cif0 (c.cif0 ∷ (listed_words a ++ listed_words c)) (d.cif0 ∷ (listed_words b ++ listed_words d)) e in
    let second = same_head c.cif0 d.cif0 (listed_words a ++ listed_words c) (listed_words b ++ listed_words d) first.1 in
    let long : length (listed_words a) ≡ length (listed_words b) = length-listed_words a p ∙ ap number_in_mask first.0 ∙ sym (length-listed_words b q) in
    let rows = split_row (listed_words a) (listed_words b) (listed_words c) (listed_words d) long second.1 in
    (one_responses a b p q first.0 rows.0, one_responses c d r s second.0 rows.1)

-- words are one report
one_pair : (warned erred : Bool) (w w' e e' : Option Responses) → AreAnnounced warned w → AreAnnounced warned w' → AreAnnounced erred e → AreAnnounced erred e'
    → report_words w e ≡ report_words w' e' → (w ≡ w') × (e ≡ e')
one_pair false false w w' e e' p q r s same =
    (announced_none w p ∙ sym (announced_none w' q), announced_none e r ∙ sym (announced_none e' s))
one_pair true false w w' e e' p q r s same =
    let a = announced_some w p in
    let b = announced_some w' q in
    let none = announced_none e r in
    let none' = announced_none e' s in
    let left : report_words w e ≡ a.0.cif0 ∷ listed_words a.0 = ap (λ (o : Option Responses). report_words o e) a.1.0 ∙ ap (report_words (Some a.0)) none ∙ ap (λ xs. a.0.cif0 ∷ xs) (append-nil (listed_words a.0)) in
    let right : report_words w' e' ≡ b.0.cif0 ∷ listed_words b.0 = ap (λ (o : Option Responses). report_words o e') b.1.0 ∙ ap (report_words (Some b.0)) none' ∙ ap (λ xs. b.0.cif0 ∷ xs) (append-nil (listed_words b.0)) in
    (a.1.0 ∙ ap Some (one_part a.0 b.0 a.1.1 b.1.1 (sym left ∙ same ∙ right)) ∙ sym b.1.0, none ∙ sym none')
one_pair false true w w' e e' p q r s same =
    let a = announced_some e r in
    let b = announced_some e' s in
    let none = announced_none w p in
    let none' = announced_none w' q in
    let left : report_words w e ≡ a.0.cif0 ∷ listed_words a.0 = ap (λ (o : Option Responses). report_words o e) none ∙ ap (report_words None) a.1.0 in
    let right : report_words w' e' ≡ b.0.cif0 ∷ listed_words b.0 = ap (λ (o : Option Responses). report_words o e') none' ∙ ap (report_words None) b.1.0 in
    (none ∙ sym none', a.1.0 ∙ ap Some (one_part a.0 b.0 a.1.1 b.1.1 (sym left ∙ same ∙ right)) ∙ sym b.1.0)
one_pair true true w w' e e' p q r s same =
    let a = announced_some w p in
    let b = announced_some w' q in
    let c = announced_some e r in
    let d = announced_some e' s in
    let left : report_words w e ≡ report_words (Some a.0) (Some c.0) = ap (λ (o : Option Responses). report_words o e) a.1.0 ∙ ap (report_words (Some a.0)) c.1.0 in
    let right : report_words w' e' ≡ report_words (Some b.0) (Some d.0) = ap (λ (o : Option Responses). report_words o e') b.1.0 ∙ ap (report_words (Some b.0)) d.1.0 in
    let parts = one_both a.0 b.0 c.0 d.0 a.1.1 b.1.1 c.1.1 d.1.1 (sym left ∙ same ∙ right) in
    (a.1.0 ∙ ap Some parts.0 ∙ sym b.1.0, c.1.0 ∙ ap Some parts.1 ∙ sym d.1.0)

same_report : (a b : AckReport) → front_of_report a ≡ front_of_report b → a.warnings ≡ b.warnings → a.errors ≡ b.errors → a ≡ b
same_report a b e p q =
    let prologue = ap (λ (f : CommandPrologue). f.prologue) e in
    let cam = ap (λ (f : CommandPrologue). f.cam) e in
    let message = ap (λ (f : CommandPrologue). f.message) e in
    let controllee = ap (λ (f : CommandPrologue). f.controllee) e in
    let controller = ap (λ (f : CommandPrologue). f.controller) e in
    grind arith

same_state : (a b : AckState) → front_of_state a ≡ front_of_state b → a.fields ≡ b.fields → a ≡ b
same_state a b e p =
    let prologue = ap (λ (f : CommandPrologue). f.prologue) e in
    let cam = ap (λ (f : CommandPrologue). f.cam) e in
    let message = ap (λ (f : CommandPrologue). f.message) e in
    let controllee = ap (λ (f : CommandPrologue). f.controllee) e in
    let controller = ap (λ (f : CommandPrologue). f.controller) e in
    grind arith

one_report : (a b : AckReport) (words : List ℕ) → front_of_report a ≡ front_of_report b → IsReport a words → IsReport b words → a ≡ b
one_report a b words e p q =
    let cam = ap (λ (f : CommandPrologue). f.cam) e in
    let warned : AreAnnounced a.cam.warned b.warnings = subst (λ (c : Cam). AreAnnounced c.warned b.warnings) (sym cam) q.warned in
    let erred : AreAnnounced a.cam.erred b.errors = subst (λ (c : Cam). AreAnnounced c.erred b.errors) (sym cam) q.erred in
    let parts = one_pair a.cam.warned a.cam.erred a.warnings b.warnings a.errors b.errors p.warned warned p.erred erred (sym p.all ∙ q.all) in
    same_report a b e parts.0 parts.1

one_state : (a b : AckState) (words : List ℕ) → front_of_state a ≡ front_of_state b → IsState a words → IsState b words → a ≡ b
one_state a b words e p q =
    let parts = same_head (mask_of a.fields) (mask_of b.fields) (words_of_set a.fields) (words_of_set b.fields) (sym p.all ∙ q.all) in
    same_state a b e (one_set a.fields b.fields p.fields q.fields parts.0 parts.1)

pub one_content : (a b : Ack) (words : List ℕ) → IsForRole roles.Ack (front_of a).cam → front_of a ≡ front_of b → kind_bit a ≡ true → kind_bit b ≡ true
    → IsContent a words → IsContent b words → a ≡ b
one_content (V a) (V b) words asked e k l p q = ap V (one_report a b words e p q)
one_content (X a) (X b) words asked e k l p q = ap X (one_report a b words e p q)
one_content (S a) (S b) words asked e k l p q = ap S (one_state a b words e p q)
one_content (V a) (X b) words asked e k l p q = let cam = ap (λ (f : CommandPrologue). f.cam.x) e in absurd (cc (kind_v a.cam asked k).0)
one_content (V a) (S b) words asked e k l p q = let cam = ap (λ (f : CommandPrologue). f.cam.s) e in absurd (cc (kind_v a.cam asked k).1)
one_content (X a) (V b) words asked e k l p q = let cam = ap (λ (f : CommandPrologue). f.cam.v) e in absurd (cc (kind_x a.cam asked k).0)
one_content (X a) (S b) words asked e k l p q = let cam = ap (λ (f : CommandPrologue). f.cam.s) e in absurd (cc (kind_x a.cam asked k).1)
one_content (S a) (V b) words asked e k l p q =
    let cam = ap (λ (f : CommandPrologue). f.cam.v) e in
    let v : a.cam.v ≡ true = cam ∙ l in
    absurd (cc (kind_v a.cam asked v).1)
one_content (S a) (X b) words asked e k l p q =
    let cam = ap (λ (f : CommandPrologue). f.cam.x) e in
    let x : a.cam.x ≡ true = cam ∙ l in
    absurd (cc (kind_x a.cam asked x).1)
