use Rattle.difi_gateway.proofs.CallLemmas.{context_called}
use Rattle.difi_gateway.proofs.calling.call_context.Goals as goal

pub returns : goal.returns
returns c = context_called c.args.rec _ _ c.context.ensures.stands c.context.ensures.kept c.context.ensures.as_many c.context.result c.context.ensures.answer c.context.ensures.given c.context.ensures.err
