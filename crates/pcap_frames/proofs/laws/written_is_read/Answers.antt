-- The laws of the definitions.
use Rattle.pcap_frames.proofs.VerdictLaws as laws
use Rattle.pcap_frames.proofs.laws.written_is_read.Goals as goal

pub returns-clause-file : goal.returns-clause-file
returns-clause-file c = laws.file_read

pub returns-clause-captured : goal.returns-clause-captured
returns-clause-captured c = laws.record_read
