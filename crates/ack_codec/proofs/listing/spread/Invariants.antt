use Rattle.std.proofs.Common.{◌≡◌, ◌≤◌, ◌++◌, length, take, drop, sum_by}
use Rattle.vrt_fields.specs.Field.{fields_in_order}
use Rattle.vrt_fields.specs.FieldSet.{bit_in}
use Rattle.ack_codec.specs.Steps.{responses_in}
use Rattle.ack_codec.proofs.listing.spread.Given as goal

-- the responses to the fields in front are there, and those to the others stand in the rest of the words
abbrev pub invariant-loop-index : goal.invariant-loop-index
invariant-loop-index l = record {
  size : length l.words ≡ 12;
  room : sum_by (λ f. bit_in l.mask f) (drop l.index fields_in_order) ≤ length l.rest;
  words : take l.index l.words ++ responses_in l.mask (drop l.index fields_in_order) l.rest ≡ responses_in l.mask fields_in_order l.listed;
}
