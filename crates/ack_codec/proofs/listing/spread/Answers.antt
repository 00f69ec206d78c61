use Rattle.std.proofs.Common.{length, refl, ap, ◌∙◌, length-drop, arith}
use Rattle.std.proofs.Math.ListN.{length-set}
use Rattle.std.proofs.lemmas.List.{take_all}
use Rattle.vrt_fields.specs.Field.{fields_in_order}
use Rattle.vrt_fields.specs.FieldSet.{bit_in, number_in_mask}
use Rattle.ack_codec.specs.Responses.{listed_with}
use Rattle.ack_codec.proofs.ResponseLaws.{responses_read, listed_read}
use Rattle.ack_codec.proofs.Fields.{bits_next, responses_step, responses_whole}
use Rattle.ack_codec.proofs.listing.spread.Goals as goal

pub split_response-word-requires : goal.split_response-word-requires
split_response-word-requires c =
    omega (arith, bits_next c.loop-index.index c.field_at.result (omega arith) c.field_at.ensures c.args.mask, c.loop-index.invariant.room)

pub loop-index-preserved : goal.loop-index-preserved
loop-index-preserved c =
    let behind = c.split_response-word.ensures.rest in
    record {
      size = length-set c.loop-index.words c.loop-index.index c.split_response-word.result.0 ∙ c.loop-index.invariant.size;
      room = omega (
        arith,
        bits_next c.loop-index.index c.field_at.result (omega arith) c.field_at.ensures c.args.mask,
        ap length behind,
        length-drop (bit_in c.args.mask c.field_at.result) c.loop-index.rest.now,
        c.loop-index.invariant.room,
      );
      words = responses_step c.loop-index.index c.field_at.result (omega arith) c.field_at.ensures c.args.mask c.loop-index.words c.loop-index.rest.now _
          c.split_response-word.result.0 _ c.loop-index.invariant.size c.split_response-word.ensures.word behind c.loop-index.invariant.words;
    }

pub returns : goal.returns
returns c =
    let mask = c.args.mask in
    let listed = c.args.listed.now in
    let all = responses_whole c.loop-index.index mask c.loop-index.words _ c.loop-index.rest.now c.loop-index.invariant.size (omega arith) c.loop-index.invariant.words in
    record {
      mask = refl;
      responses = responses_read (record { cif0 = mask; words = c.loop-index.words }) listed c.requires.only all;
      listed = ap (listed_with mask fields_in_order) all ∙ listed_read mask fields_in_order listed (omega (arith, c.requires.all)) ∙ take_all (number_in_mask mask) listed (omega (arith, c.requires.all));
    }
