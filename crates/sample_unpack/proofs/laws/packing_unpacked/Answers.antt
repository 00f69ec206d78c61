use Rattle.sample_unpack.proofs.RoundTrip.{bits_kept}
use Rattle.sample_unpack.proofs.laws.packing_unpacked.Goals as goal

pub returns : goal.returns
returns c bits payload first count within = bits_kept bits payload first count within
