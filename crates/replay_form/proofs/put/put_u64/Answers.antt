-- The number replaces the bytes there, and nothing else.
use Rattle.replay_form.proofs.Putting.{put-is, agrees, stays}
use Rattle.replay_form.proofs.put.put_u64.Goals as goal

pub returns-clause-agrees : goal.returns-clause-agrees
returns-clause-agrees c = λ bytes fits there same e.
    agrees 8 c.args.offset c.args.number c.args.into.now _ bytes c.requires (put-is 8 c.args.offset c.args.number c.args.into.now _ c.requires c.write_u64.ensures) fits there same e

pub returns-clause-stays : goal.returns-clause-stays
returns-clause-stays c =
    stays 8 c.args.offset c.args.number c.args.into.now _ c.requires (put-is 8 c.args.offset c.args.number c.args.into.now _ c.requires c.write_u64.ensures)
