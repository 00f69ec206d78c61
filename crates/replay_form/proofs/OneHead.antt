-- Bytes say one header.
use Rattle.std.proofs.Common.{◌≡◌, ℕ, ◌<◌, List, refl, sym, ap, ◌∙◌, arith}
use Rattle.std.proofs.lemmas.List.{ext_get_or}
use Rattle.cam_field.specs.declared.ident.Ident.{Ident}
use Rattle.cam_field.specs.declared.ident.Ident.TheVariants as idents
use Rattle.replay_form.specs.Numbers.{AreNumbers}
use Rattle.replay_form.specs.Head.{IsHead, IsIdentity}
use Rattle.replay_form.specs.declared.record_head.RecordHead.{RecordHead}

one_list : (words others : List ℕ) (offset count : ℕ) (bytes : List ℕ) → AreNumbers words offset count bytes → AreNumbers others offset count bytes → words ≡ others
one_list words others offset count bytes p q =
    ext_get_or 0 words others (p.all ∙ sym q.all) (λ i h. let k : i < count = omega (arith, p.all) in p.each i k ∙ sym (q.each i k))

one_identity : (identity other : Ident) (bytes : List ℕ) → IsIdentity identity bytes → IsIdentity other bytes → identity ≡ other
one_identity idents.None idents.None bytes p q = refl
one_identity idents.None (idents.Word word) bytes p q = absurd (omega (arith, p, q.0))
one_identity idents.None (idents.Uuid words) bytes p q = absurd (omega (arith, p, q.0))
one_identity (idents.Word word) idents.None bytes p q = absurd (omega (arith, p.0, q))
one_identity (idents.Word word) (idents.Word other) bytes p q = ap idents.Word (p.1 ∙ sym q.1)
one_identity (idents.Word word) (idents.Uuid words) bytes p q = absurd (omega (arith, p.0, q.0))
one_identity (idents.Uuid words) idents.None bytes p q = absurd (omega (arith, p.0, q))
one_identity (idents.Uuid words) (idents.Word word) bytes p q = absurd (omega (arith, p.0, q.0))
one_identity (idents.Uuid words) (idents.Uuid others) bytes p q = ap idents.Uuid (one_list words others 44 4 bytes p.1 q.1)

-- equal values make one header
same_head : (head other : RecordHead) → head.form ≡ other.form → head.profile ≡ other.profile → head.max_words ≡ other.max_words → head.limits ≡ other.limits
    → head.identity ≡ other.identity → head.initial ≡ other.initial → head.bounds ≡ other.bounds → head.routes ≡ other.routes → head ≡ other
same_head head other form profile max_words limits identity initial bounds routes =
    ap (λ x. record head { form = x }) form
    ∙ ap (λ x. record head { form = other.form; profile = x }) profile
    ∙ ap (λ x. record head { form = other.form; profile = other.profile; max_words = x }) max_words
    ∙ ap (λ x. record head { form = other.form; profile = other.profile; max_words = other.max_words; limits = x }) limits
    ∙ ap (λ x. record other { identity = x; initial = head.initial; bounds = head.bounds; routes = head.routes }) identity
    ∙ ap (λ x. record other { initial = x; bounds = head.bounds; routes = head.routes }) initial
    ∙ ap (λ x. record other { bounds = x; routes = head.routes }) bounds
    ∙ ap (λ x. record other { routes = x }) routes

pub one_head : (head other : RecordHead) (bytes : List ℕ) → IsHead head bytes → IsHead other bytes → head ≡ other
one_head head other bytes p q =
    same_head head other
    (p.form ∙ sym q.form)
    (p.profile ∙ sym q.profile)
    (p.max_words ∙ sym q.max_words)
    (p.limits ∙ sym q.limits)
    (one_identity head.identity other.identity bytes p.identity q.identity)
    (one_list head.initial other.initial 60 19 bytes p.initial q.initial)
    (p.bounds ∙ sym q.bounds)
    (p.routes ∙ sym q.routes)
