use Rattle.sample_binder.proofs.BinderLemmas.{data_size}
use Rattle.sample_binder.proofs.StateLemmas.{sampling_of}
use Rattle.sample_binder.proofs.laws.packets_are_sound.Goals as goal

pub returns-clause-sampling : goal.returns-clause-sampling
returns-clause-sampling c = sampling_of

pub returns-clause-size : goal.returns-clause-size
returns-clause-size c = data_size
