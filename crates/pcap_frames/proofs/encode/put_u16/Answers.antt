-- The number replaces the bytes there, and nothing else.
use Rattle.std.proofs.Common.{arith}
use Rattle.byteorder.specs.Endian.{big_bytes, little_bytes}
use Rattle.byteorder.specs.Numbers.{length-bytes_high_first, length-bytes_low_first}
use Rattle.pcap_frames.proofs.SpellingLaws.{put_is, big_there, little_there, front_stays, rest_stays}
use Rattle.pcap_frames.proofs.encode.put_u16.Goals as goal

pub returns-then-big-clause-there : goal.returns-then-big-clause-there
returns-then-big-clause-there c =
    big_there c.args.big 2 c.args.offset c.args.number c.args.into.now _ c.if-big.true c.requires (omega arith)
    (put_is 2 c.args.offset (big_bytes 2 c.args.number) c.args.into.now _ c.requires c.write_u16.ensures)

pub returns-then-big-clause-front : goal.returns-then-big-clause-front
returns-then-big-clause-front c =
    front_stays c.args.offset c.args.into.now _ _ (omega (arith, c.requires)) (put_is 2 c.args.offset (big_bytes 2 c.args.number) c.args.into.now _ c.requires c.write_u16.ensures)

pub returns-then-big-clause-stays : goal.returns-then-big-clause-stays
returns-then-big-clause-stays c =
    rest_stays 2 c.args.offset (big_bytes 2 c.args.number) c.args.into.now _ c.requires (length-bytes_high_first 2 c.args.number)
    (put_is 2 c.args.offset (big_bytes 2 c.args.number) c.args.into.now _ c.requires c.write_u16.ensures)

pub returns-else-big-clause-there : goal.returns-else-big-clause-there
returns-else-big-clause-there c =
    little_there c.args.big 2 c.args.offset c.args.number c.args.into.now _ c.if-big.false c.requires (omega arith)
    (put_is 2 c.args.offset (little_bytes 2 c.args.number) c.args.into.now _ c.requires c.write_u16-else-big.ensures)

pub returns-else-big-clause-front : goal.returns-else-big-clause-front
returns-else-big-clause-front c =
    front_stays c.args.offset c.args.into.now _ _ (omega (arith, c.requires))
    (put_is 2 c.args.offset (little_bytes 2 c.args.number) c.args.into.now _ c.requires c.write_u16-else-big.ensures)

pub returns-else-big-clause-stays : goal.returns-else-big-clause-stays
returns-else-big-clause-stays c =
    rest_stays 2 c.args.offset (little_bytes 2 c.args.number) c.args.into.now _ c.requires (length-bytes_low_first 0 2 c.args.number)
    (put_is 2 c.args.offset (little_bytes 2 c.args.number) c.args.into.now _ c.requires c.write_u16-else-big.ensures)
