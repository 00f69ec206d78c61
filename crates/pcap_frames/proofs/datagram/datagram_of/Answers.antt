-- Without a packet there is no datagram.
use Rattle.pcap_frames.proofs.datagram.datagram_of.Goals as goal

pub returns-in-None-clause-none : goal.returns-in-None-clause-none
returns-in-None-clause-none c = λ datagram h. c.in-None.ensures.none h.start h.packet
