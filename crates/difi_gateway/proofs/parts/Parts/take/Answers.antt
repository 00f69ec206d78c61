use Rattle.std.proofs.Common.{subst, arith}
use Rattle.vrt_words.proofs.WordLaws.{words_of-words}
use Rattle.vrt_words.specs.Words.{words_of}
use Rattle.difi_packet.specs.declared.packet.Packet.{Packet}
use Rattle.difi_packet.specs.Packet.{IsPacket, value_of}
use Rattle.difi_gateway.proofs.parts.Parts.take.Goals as goal

pub take_context-requires-clause-grammar : goal.take_context-requires-clause-grammar
take_context-requires-clause-grammar c = record {
  words = words_of c.args.bytes.now;
  are_words = words_of-words c.args.bytes.now (λ i. omega (arith, c.type_inv.bytes i));
  packet = subst (λ (p : Packet). IsPacket c.args.self.now.profile (value_of p) (words_of c.args.bytes.now)) c.in-Context.is c.requires.packet.packet;
}
