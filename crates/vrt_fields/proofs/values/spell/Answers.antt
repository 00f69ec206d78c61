use Rattle.std.proofs.Common.{◌≡◌, ◌+◌, ◌++◌, ◌<◌, ℕ, take, drop, length, get_or, None, sym, ap, ◌∙◌, append-nil, length-append, arith}
use Rattle.vrt_fields.specs.declared.field.Field.{Field}
use Rattle.vrt_fields.specs.declared.field.Field.TheVariants.{ReferencePoint}
use Rattle.vrt_fields.specs.Field.{fields_in_order, width_of}
use Rattle.vrt_fields.specs.FieldSet.{FieldValues, words_with, words_of_set, words_if}
use Rattle.vrt_fields.proofs.FieldSetLaws.{IsFieldSet-AllFit}
use Rattle.vrt_fields.proofs.Steps.{words_next, words_most, all_widths, words_end, fits_at, words_written}
use Rattle.vrt_fields.proofs.values.spell.Goals as goal

lengths : (i : ℕ) (field : Field) (values : FieldValues) → i < 12 → field ≡ get_or fields_in_order i ReferencePoint → i < length values
    → length (words_with (drop i fields_in_order) (drop i values))
    ≡ length (words_if (get_or values i None) (width_of field)) + length (words_with (drop (i + 1) fields_in_order) (drop (i + 1) values))
lengths i field values h e k =
    ap length (words_next i field h e values k)
    ∙ length-append (words_if (get_or values i None) (width_of field)) (words_with (drop (i + 1) fields_in_order) (drop (i + 1) values))

pub put_value-count-requires-clause-room : goal.put_value-count-requires-clause-room
put_value-count-requires-clause-room c =
    let next = lengths c.loop-index.index c.field_at.result c.args.values.now (omega arith) c.field_at.ensures (omega arith) in
    omega (arith, next, words_most fields_in_order c.args.values.now, all_widths, c.loop-index.invariant.count)

pub put_value-count-requires-clause-fits : goal.put_value-count-requires-clause-fits
put_value-count-requires-clause-fits c =
    fits_at c.loop-index.index c.field_at.result c.args.values.now (IsFieldSet-AllFit c.args.values.now c.requires) (omega arith) c.field_at.ensures

pub loop-index-preserved : goal.loop-index-preserved
loop-index-preserved c =
    let next = words_next c.loop-index.index c.field_at.result (omega arith) c.field_at.ensures c.args.values.now (omega arith) in
    let sizes = lengths c.loop-index.index c.field_at.result c.args.values.now (omega arith) c.field_at.ensures (omega arith) in
    record {
      size = omega arith;
      count = omega (arith, sizes, c.loop-index.invariant.count);
      words = words_written c.loop-index.into (words_if (get_or c.args.values.now c.loop-index.index None) (width_of c.field_at.result))
          (words_with (drop (c.loop-index.index + 1) fields_in_order) (drop (c.loop-index.index + 1) c.args.values.now))
          c.loop-index.count _ (words_of_set c.args.values.now) (ap (λ l. take c.loop-index.count c.loop-index.into ++ l) (sym next) ∙ c.loop-index.invariant.words)
          _ c.put_value-count.ensures.words;
    }

pub returns : goal.returns
returns c =
    let over = words_end c.loop-index.index c.args.values.now (omega arith) in
    record {
      number = omega (arith, ap length over, c.loop-index.invariant.count);
      most = omega (arith, words_most fields_in_order c.args.values.now, all_widths, c.loop-index.invariant.count);
      words = sym (append-nil (take c.loop-index.count c.loop-index.into)) ∙ ap (λ l. take c.loop-index.count c.loop-index.into ++ l) (sym over) ∙ c.loop-index.invariant.words;
    }
