use Rattle.difi_gateway.proofs.FitLemmas.{calls_in_grammar, calls_not_told}
use Rattle.difi_gateway.proofs.laws.calls_are_of_packets.Goals as goal

pub returns-clause-packets : goal.returns-clause-packets
returns-clause-packets c = calls_in_grammar

pub returns-clause-running : goal.returns-clause-running
returns-clause-running c = calls_not_told
