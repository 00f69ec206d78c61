use Rattle.std.proofs.Common.{length, arith}
use Rattle.std.proofs.lemmas.List.Elements.{All-same}
use Rattle.sample_unpack.specs.Bits.{bits_of_bytes}
use Rattle.sample_unpack.specs.Samples.{SampleFits, samples_from}
use Rattle.sample_unpack.proofs.RoundTrip.{samples_fit}
use Rattle.sample_unpack.proofs.unpack.unpack_into.Goals as goal

pub returns-clause-fit : goal.returns-clause-fit
returns-clause-fit c =
    let bits = c.args.bits in
    let payload = c.args.payload.now in
    let count = length c.args.into.now in
    All-same (SampleFits bits) c.unpack_by_width.new.into (samples_from bits (bits_of_bytes payload) c.args.first count) c.unpack_by_width.ensures
    (samples_fit bits payload c.args.first count (omega arith) c.requires.within)
