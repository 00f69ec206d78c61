use Rattle.sample_unpack.proofs.Widening.{all_fit}
use Rattle.unpack_speed.proofs.repack_block.Goals as goal

pub pack_into-requires-clause-fits : goal.pack_into-requires-clause-fits
pack_into-requires-clause-fits c = all_fit c.args.bits c.unpack_into.new.into c.requires.most c.unpack_into.ensures.fit
