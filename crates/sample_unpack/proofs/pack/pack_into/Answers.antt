use Rattle.std.proofs.Common.{◌-◌, ◌*◌, length, replicate, arith}
use Rattle.sample_unpack.specs.Bits.{bits_of_bytes}
use Rattle.sample_unpack.proofs.RoundTrip.{read_back, packed_again}
use Rattle.sample_unpack.proofs.pack.pack_into.Goals as goal

pub returns-clause-read_back : goal.returns-clause-read_back
returns-clause-read_back c =
    let samples = c.args.samples.now in
    read_back c.args.bits samples (bits_of_bytes c.pack_by_width.new.into) (replicate (8 * length c.args.into.now - 2 * c.args.bits * length samples) 0)
    (omega arith) c.requires.fits c.pack_by_width.ensures

pub returns-clause-again : goal.returns-clause-again
returns-clause-again c payload first within read =
    let samples = c.args.samples.now in
    packed_again c.args.bits samples (bits_of_bytes c.pack_by_width.new.into) (replicate (8 * length c.args.into.now - 2 * c.args.bits * length samples) 0)
    payload first c.pack_by_width.ensures within read
