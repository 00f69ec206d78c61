use Rattle.std.proofs.Common.{inl, subst}
use Rattle.difi_packet.specs.Packet.{DataValue}
use Rattle.difi_gateway.specs.Steps.{IsDataTaken, gated}
use Rattle.difi_gateway.proofs.parts.Parts.take_frame.Goals as goal

pub returns-in-Some : goal.returns-in-Some
returns-in-Some c =
    let d = c.in-Some.ensures in
    inl (record {
      value = DataValue d.packet;
      fits = d.fits;
      packet = record { whole = d.is.whole; packet = d.is.packet };
      taken = subst (λ stream. IsDataTaken stream c.args.bytes.now c.args.port (gated c.args.self.now) (gated c.take_data.new.self)) d.stream_is c.take_data.ensures;
    })
