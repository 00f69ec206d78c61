use Rattle.std.proofs.Common.{sym, ap, ◌∙◌}
use Rattle.vrt_fields.specs.FieldSet.{FieldValues, mask_of, width_of_mask}
use Rattle.vrt_fields.proofs.FieldSetLaws.{width_is_of_fields}
use Rattle.vrt_fields.proofs.field_set.FieldSet.words.Goals as goal

pub returns-clause-width : goal.returns-clause-width
returns-clause-width c =
    c.spell.ensures.number ∙ sym (width_is_of_fields c.self.inside.values c.self.invariant)
    ∙ ap (λ (s : FieldValues). width_of_mask (mask_of s)) c.self.view_is
