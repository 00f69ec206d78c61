use Rattle.sample_unpack.proofs.Widening.{all_fit}
use Rattle.sample_unpack.proofs.widen_tests.repack_through.Goals as goal

pub pack_into-requires-clause-fits : goal.pack_into-requires-clause-fits
pack_into-requires-clause-fits c = all_fit c.args.bits c.unpack_into.new.into c.requires.most_bits c.unpack_into.ensures.fit
