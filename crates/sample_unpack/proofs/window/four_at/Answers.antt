use Rattle.std.proofs.Common.{◌*◌}
use Rattle.sample_unpack.specs.Bits.{bits_of_bytes}
use Rattle.sample_unpack.proofs.Samples.{four_samples}
use Rattle.sample_unpack.proofs.window.four_at.Goals as goal

pub returns : goal.returns
returns c =
    four_samples c.args.width (bits_of_bytes c.args.payload.now) (8 * c.args.at) c.sample_behind.result c.sample_behind-2.result c.sample_behind-3.result c.sample_behind-4.result
    c.sample_behind.ensures c.sample_behind-2.ensures c.sample_behind-3.ensures c.sample_behind-4.ensures
