use Rattle.std.proofs.Common.{refl, arith}
use Rattle.std.proofs.lemmas.Option.{slice_get_read}
use Rattle.difi_gateway.proofs.parts.Parts.tell_end.Goals as goal

pub end-requires : goal.end-requires
end-requires c = c.requires c.index_mut.result.now (slice_get_read _ _ c.args.index c.index_mut.result.now refl (omega arith) c.index_mut.ensures.value)
