-- The place is that of the kind.
use Rattle.std.proofs.Common.{refl}
use Rattle.vrt_header.specs.declared.header.Kind.TheVariants as kinds
use Rattle.difi_packet.specs.Packet.{ContextValue}
use Rattle.difi_packet.proofs.PacketLaws.{place_of_kind}
use Rattle.difi_packet.proofs.classifying.classify_context.Goals as goal

pub returns-in-Ok-clause-found : goal.returns-in-Ok-clause-found
returns-in-Ok-clause-found c =
    let d = c.in-Ok.ensures.found in (ContextValue c.in-Ok.rec, (record { whole = d.whole; packet = d.packet }, refl))

pub returns-in-Err-clause-refused : goal.returns-in-Err-clause-refused
returns-in-Err-clause-refused c = place_of_kind c.args.profile kinds.Context c.args.bytes.now c.in-Err.place.word c.requires c.in-Err.ensures.refused
