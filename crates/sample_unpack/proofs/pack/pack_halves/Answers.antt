use Rattle.sample_unpack.proofs.Bits.{bits_of_bytes-nil}
use Rattle.sample_unpack.proofs.pack.pack_halves.Goals as goal

pub loop-index-init : goal.loop-index-init
loop-index-init c = bits_of_bytes-nil
