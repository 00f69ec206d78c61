use Rattle.std.proofs.Common.{◌≡◌, ◌≤◌, List, ℕ, take, length, sym, ap, ◌∙◌, subst, length-drop, arith}
use Rattle.std.proofs.Math.ListN.{length-set}
use Rattle.vrt_words.specs.Words.{AreWords}
use Rattle.vrt_fields.specs.Field.{fields_in_order}
use Rattle.vrt_fields.specs.FieldSet.{FieldValues, IsFieldSet, IsFieldMask, mask_of, words_of_set, width_of_mask}
use Rattle.vrt_fields.specs.Values.{values_in, taken}
use Rattle.vrt_fields.proofs.FieldSetLaws.{AllFit-IsFieldSet, fits_read, mask_read, words_read, one_set}
use Rattle.vrt_fields.proofs.Steps.{width_next, values_step, values_whole}
use Rattle.vrt_fields.proofs.values.take_values.Goals as goal

pub split_value-value-requires : goal.split_value-value-requires
split_value-value-requires c =
    omega (arith, width_next c.loop-index.index c.field_at.result (omega arith) c.field_at.ensures c.args.cif0, c.loop-index.invariant.room)

pub loop-index-preserved : goal.loop-index-preserved
loop-index-preserved c =
    let behind = c.split_value-value.ensures.rest in
    record {
      size = length-set c.loop-index.values c.loop-index.index c.split_value-value.result.0 ∙ c.loop-index.invariant.size;
      room = omega (
        arith,
        width_next c.loop-index.index c.field_at.result (omega arith) c.field_at.ensures c.args.cif0,
        ap length behind,
        length-drop (taken c.args.cif0 c.field_at.result) c.loop-index.rest.now,
        c.loop-index.invariant.room,
      );
      values = values_step c.loop-index.index c.args.cif0 c.field_at.result (omega arith) c.field_at.ensures c.loop-index.values c.loop-index.rest.now _
          c.split_value-value.result.0 _ c.loop-index.invariant.size c.split_value-value.ensures.value behind c.loop-index.invariant.values;
    }

record Read (cif0 : ℕ) (from : List ℕ) (values : FieldValues) : Type 0 where
  is_set : IsFieldSet values
  mask : mask_of values ≡ cif0
  words : words_of_set values ≡ take (width_of_mask cif0) from

read_of : (cif0 : ℕ) (words : List ℕ) (values : FieldValues) → AreWords words → IsFieldMask cif0 → width_of_mask cif0 ≤ length words
    → values ≡ values_in cif0 fields_in_order words → Read cif0 words values
read_of cif0 words values are only there e = subst (Read cif0 words) (sym e) (record {
  is_set = AllFit-IsFieldSet (values_in cif0 fields_in_order words) (fits_read cif0 fields_in_order words are);
  mask = mask_read cif0 fields_in_order words ∙ sym only;
  words = words_read cif0 fields_in_order words are there;
})

pub returns : goal.returns
returns c =
    let whole = values_whole c.loop-index.index c.args.cif0 c.loop-index.values _ c.loop-index.rest.now c.loop-index.invariant.size (omega arith) c.loop-index.invariant.values in
    let read = read_of c.args.cif0 c.args.words.now c.loop-index.values (λ k. omega (arith, c.type_inv.words k)) c.requires.only c.requires.there whole in
    record {
      «set» = read.is_set;
      mask = read.mask;
      words = read.words;
      only = λ other fits mask words. one_set c.loop-index.values other read.is_set fits (read.mask ∙ sym mask) (read.words ∙ sym words);
    }
