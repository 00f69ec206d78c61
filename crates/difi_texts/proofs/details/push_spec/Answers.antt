use Rattle.std.proofs.Common.{◌≡◌, ◌++◌, ℕ, List, ap, ◌∙◌, append_assoc, codes}
use Rattle.vrt_fields.specs.NumberText.{hexadecimal}
use Rattle.difi_texts.specs.Prologue.{indented}
use Rattle.difi_texts.proofs.details.push_spec.Goals as goal

whole : (old : List ℕ) (word : ℕ) → ((old ++ codes "  spec ") ++ hexadecimal word) ++ codes "\n" ≡ old ++ indented (codes "spec " ++ hexadecimal word)
whole old word = simp append_assoc

pub returns-clause-text : goal.returns-clause-text
returns-clause-text c =
    c.push-2.ensures ∙ ap (λ l. l ++ codes "\n") c.push_hexadecimal.ensures
    ∙ ap (λ l. (l ++ hexadecimal c.args.spec) ++ codes "\n") c.push.ensures ∙ whole c.args.out.now c.args.spec
