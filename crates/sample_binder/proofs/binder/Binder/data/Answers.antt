use Rattle.std.proofs.Common.{sym, subst}
use Rattle.sample_binder.specs.Given.{IsDataBytes}
use Rattle.sample_binder.proofs.BinderLemmas.{data_bytes}
use Rattle.sample_binder.proofs.binder.Binder.data.Goals as goal

pub front_of-front-requires : goal.front_of-front-requires
front_of-front-requires c = subst IsDataBytes (sym c.bytes.ensures.bytes) (data_bytes c.args.self.now.profile c.args.buf.bytes c.requires.grammar)
