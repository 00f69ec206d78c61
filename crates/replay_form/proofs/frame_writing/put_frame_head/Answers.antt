-- Each number leaves the bytes behind it.
use Rattle.std.proofs.Common.{◌∙◌, arith}
use Rattle.replay_form.proofs.frame_writing.put_frame_head.Goals as goal

pub returns-clause-stays : goal.returns-clause-stays
returns-clause-stays c =
    c.put_u32-2.ensures.stays 20 (omega arith) ∙ c.put_u16-2.ensures.stays 20 (omega arith) ∙ c.put_u16.ensures.stays 20 (omega arith)
    ∙ c.put_u64.ensures.stays 20 (omega arith) ∙ c.put_u32.ensures.stays 20 (omega arith)
