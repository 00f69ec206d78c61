use Rattle.std.proofs.Common.{◌≡◌, ◌+◌, ◌++◌, length, take, drop}
use Rattle.vrt_fields.specs.Field.{fields_in_order}
use Rattle.ack_codec.specs.Responses.{listed_with, listed_words}
use Rattle.ack_codec.proofs.listing.gather.Given as goal

-- the words of the fields in front are gathered, and those of the others are to come
abbrev pub invariant-loop-index : goal.invariant-loop-index
invariant-loop-index l = record {
  size : length l.into ≡ 12;
  count : l.count + length (listed_with l.responses.cif0 (drop l.index fields_in_order) (drop l.index l.responses.words)) ≡ length (listed_words l.responses);
  words : take l.count l.into ++ listed_with l.responses.cif0 (drop l.index fields_in_order) (drop l.index l.responses.words) ≡ listed_words l.responses;
}
