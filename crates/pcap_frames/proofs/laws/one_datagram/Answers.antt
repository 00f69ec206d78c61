-- The law of the definition.
use Rattle.pcap_frames.proofs.DatagramLaws as laws
use Rattle.pcap_frames.proofs.laws.one_datagram.Goals as goal

pub returns : goal.returns
returns c = laws.one_datagram
