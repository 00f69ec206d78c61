-- The place is that of the kind.
use Rattle.vrt_header.specs.declared.header.Kind.TheVariants as kinds
use Rattle.difi_packet.proofs.PacketLaws.{place_of_kind}
use Rattle.difi_packet.proofs.packet.read_context.Goals as goal

pub returns-in-Err-clause-refused : goal.returns-in-Err-clause-refused
returns-in-Err-clause-refused c = place_of_kind c.args.profile kinds.Context c.args.bytes.now c.in-Err.place.word c.requires c.in-Err.ensures.refused
