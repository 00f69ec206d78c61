use Rattle.site_truth.proofs.FinalLemmas.{context_taken, packet_taken}
use Rattle.site_truth.proofs.laws.first_arrivals_are_taken.Goals as goal

pub returns-clause-contexts : goal.returns-clause-contexts
returns-clause-contexts c = context_taken

pub returns-clause-packets : goal.returns-clause-packets
returns-clause-packets c = packet_taken
