use Rattle.std.proofs.Common.{◌≡◌, ◌+◌, ◌++◌, ◌<◌, ℕ, List, take, drop, length, get_or, sym, ap, ◌∙◌, append-nil, length-append, arith}
use Rattle.vrt_fields.specs.declared.field.Field.{Field}
use Rattle.vrt_fields.specs.declared.field.Field.TheVariants.{ReferencePoint}
use Rattle.vrt_fields.specs.Field.{fields_in_order}
use Rattle.vrt_fields.specs.FieldSet.{bit_in}
use Rattle.ack_codec.specs.Responses.{word_if, listed_with, listed_words}
use Rattle.ack_codec.proofs.Fields.{listed_next, listed_end, listed_most, words_written}
use Rattle.ack_codec.proofs.listing.gather.Goals as goal

-- one more field, whose bit was read
next : (i : ℕ) (field : Field) (mask bit : ℕ) (words : List ℕ) → i < 12 → field ≡ get_or fields_in_order i ReferencePoint → bit ≡ bit_in mask field → i < length words
    → listed_with mask (drop i fields_in_order) (drop i words) ≡ word_if bit (get_or words i 0) ++ listed_with mask (drop (i + 1) fields_in_order) (drop (i + 1) words)
next i field mask bit words h e same k =
    listed_next i field h e mask words k
    ∙ ap (λ b. word_if b (get_or words i 0) ++ listed_with mask (drop (i + 1) fields_in_order) (drop (i + 1) words)) (sym same)

lengths : (i : ℕ) (field : Field) (mask bit : ℕ) (words : List ℕ) → i < 12 → field ≡ get_or fields_in_order i ReferencePoint → bit ≡ bit_in mask field → i < length words
    → length (listed_with mask (drop i fields_in_order) (drop i words))
    ≡ length (word_if bit (get_or words i 0)) + length (listed_with mask (drop (i + 1) fields_in_order) (drop (i + 1) words))
lengths i field mask bit words h e same k =
    ap length (next i field mask bit words h e same k)
    ∙ length-append (word_if bit (get_or words i 0)) (listed_with mask (drop (i + 1) fields_in_order) (drop (i + 1) words))

pub put_response-count-requires : goal.put_response-count-requires
put_response-count-requires c =
    let r = c.args.responses.now in
    let sizes = lengths c.loop-index.index c.field_at.result r.cif0 c.bit_under-listed.result r.words (omega arith) c.field_at.ensures c.bit_under-listed.ensures.number (omega arith) in
    omega (arith, sizes, listed_most r.cif0 r.words, c.loop-index.invariant.count)

pub loop-index-preserved : goal.loop-index-preserved
loop-index-preserved c =
    let r = c.args.responses.now in
    let i = c.loop-index.index in
    let bit = c.bit_under-listed.result in
    let same = next i c.field_at.result r.cif0 bit r.words (omega arith) c.field_at.ensures c.bit_under-listed.ensures.number (omega arith) in
    let sizes = lengths i c.field_at.result r.cif0 bit r.words (omega arith) c.field_at.ensures c.bit_under-listed.ensures.number (omega arith) in
    record {
      size = omega arith;
      count = omega (arith, sizes, c.loop-index.invariant.count);
      words = words_written c.loop-index.into (word_if bit (get_or r.words i 0)) (listed_with r.cif0 (drop (i + 1) fields_in_order) (drop (i + 1) r.words))
          c.loop-index.count _ (listed_words r) (ap (λ l. take c.loop-index.count c.loop-index.into ++ l) (sym same) ∙ c.loop-index.invariant.words)
          _ c.put_response-count.ensures.words;
    }

pub returns : goal.returns
returns c =
    let r = c.args.responses.now in
    let over = listed_end r.cif0 c.loop-index.index r.words (omega arith) in
    record {
      number = omega (arith, ap length over, c.loop-index.invariant.count);
      most = omega (arith, listed_most r.cif0 r.words, c.loop-index.invariant.count);
      words = sym (append-nil (take c.loop-index.count c.loop-index.into)) ∙ ap (λ l. take c.loop-index.count c.loop-index.into ++ l) (sym over) ∙ c.loop-index.invariant.words;
    }
