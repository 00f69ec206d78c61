use Rattle.std.proofs.Common.{◌≡◌, ◌<◌, ◌^◌, ℕ, List, subst, sym, arith}
use Rattle.vrt_words.specs.Words.{AreWords}
use Rattle.vrt_fields.specs.declared.field.Field.{Field}
use Rattle.vrt_fields.specs.declared.field.Field.TheVariants.{ReferencePoint, ReferenceLevel, Gain, Calibration, State}
use Rattle.vrt_fields.specs.Field.{width_of}
use Rattle.difi_context.specs.Context.{field_of}
use Rattle.difi_texts.proofs.details.push_field.Goals as goal

one_word : (fields : List ℕ) (field : Field) → AreWords fields → width_of field ≡ 1 → field_of fields field < 2 ^ 32
one_word fields ReferencePoint are h = are 0
one_word fields ReferenceLevel are h = are 9
one_word fields Gain are h = are 10
one_word fields Calibration are h = are 15
one_word fields State are h = are 16
one_word fields field are h = absurd (omega arith)

pub push_field_line-requires-clause-fits : goal.push_field_line-requires-clause-fits
push_field_line-requires-clause-fits c = λ h.
    subst (λ n. n < 2 ^ 32) (sym c.requires.value) (one_word c.args.words.now c.args.field (λ k. omega (arith, c.type_inv.words k)) h)
