use Rattle.std.proofs.Common.{◌≡◌, ◌++◌, ◌/◌, ◌%◌, ℕ, List, ap, ◌∙◌, append_assoc, codes}
use Rattle.std.specs.Fmt.{signed_decimal}
use Rattle.vrt_fields.specs.NumberText.{hexadecimal_half}
use Rattle.vrt_fields.specs.Text.{signed_16, level}
use Rattle.vrt_fields.proofs.text.push_level.Goals as goal

level_parts : (old : List ℕ) (word : ℕ)
    → ((old ++ signed_decimal (signed_16 (word % 65536))) ++ codes "/128 dBm upper ") ++ hexadecimal_half (word / 65536) ≡ old ++ level word
level_parts old word = simp append_assoc

pub returns-clause-text : goal.returns-clause-text
returns-clause-text c =
    c.push_half.ensures.text
    ∙ ap (λ l. l ++ hexadecimal_half (c.args.word / 65536)) c.push_text.ensures.text
    ∙ ap (λ l. (l ++ codes "/128 dBm upper ") ++ hexadecimal_half (c.args.word / 65536)) c.push_signed_half.ensures.text
    ∙ level_parts c.args.into.now.items c.args.word
