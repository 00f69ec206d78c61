-- The bytes from the offset on begin with the number.
use Rattle.std.proofs.Common.{ap, ◌∙◌}
use Rattle.std.proofs.lemmas.List.{take_rest}
use Rattle.byteorder.specs.Endian.{big_from, little_from}
use Rattle.pcap_frames.proofs.NumberLaws.{big_number, little_number}
use Rattle.pcap_frames.proofs.numbers.u16_in.Goals as goal

pub returns-then-big : goal.returns-then-big
returns-then-big c =
    c.read_u16.ensures ∙ ap (big_from 0 2) (take_rest c.args.bytes.now c.args.offset) ∙ big_number c.args.big c.args.offset 2 c.args.bytes.now c.if-big.true

pub returns-else-big : goal.returns-else-big
returns-else-big c =
    c.read_u16-else-big.ensures ∙ ap (little_from 0 2) (take_rest c.args.bytes.now c.args.offset) ∙ little_number c.args.big c.args.offset 2 c.args.bytes.now c.if-big.false
