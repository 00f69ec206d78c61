-- What is told of a packet, and of what is none.
use Rattle.std.specs.Prelude.{[]}
use Rattle.difi_packet.specs.Packet.{PacketValue, kind_and_stream}
use Rattle.difi_texts.specs.declared.lines.Judgement.{Judgement}
use Rattle.difi_texts.specs.declared.lines.Judgement.TheVariants.{Accepted}
use Rattle.difi_texts.specs.declared.lines.Listing.{Listing}
use Rattle.difi_texts.specs.Lines.{Account}
use Rattle.difi_texts.specs.Details.{under}

-- a packet of its kind and stream
abbrev pub accepted : PacketValue → Judgement
accepted value = Accepted (kind_and_stream value).0 (kind_and_stream value).1

-- what is told of a packet, and of what is turned away
abbrev pub account_of : Listing → PacketValue → Account
account_of listing value = record { judgement = accepted value; under = under listing value }

abbrev pub turned_away : Judgement → Account
turned_away judgement = record { judgement = judgement; under = [] }
