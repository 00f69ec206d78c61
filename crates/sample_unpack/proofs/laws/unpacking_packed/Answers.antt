use Rattle.std.proofs.Common.{◌++◌, refl}
use Rattle.sample_unpack.specs.Samples.{bits_of_samples}
use Rattle.sample_unpack.proofs.RoundTrip.{read_back}
use Rattle.sample_unpack.proofs.laws.unpacking_packed.Goals as goal

pub returns : goal.returns
returns c bits samples behind some fits = read_back bits samples (bits_of_samples bits samples ++ behind) behind some fits refl
