use Rattle.sample_binder.proofs.LawLemmas.{read_told}
use Rattle.sample_binder.proofs.laws.data_packets_are_read.Goals as goal

pub returns : goal.returns
returns c = read_told
