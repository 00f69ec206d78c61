use Rattle.difi_gateway.proofs.CallLemmas.{data_called}
use Rattle.difi_gateway.proofs.calling.call_data.Goals as goal

pub returns-clause-called : goal.returns-clause-called
returns-clause-called c = data_called c.args.buf _ _ c.data_with.ensures.stands c.data_with.ensures.kept c.data_with.ensures.few_kept c.data_with.result c.data_with.ensures.answer c.data_with.ensures.one_more c.data_with.ensures.given c.data_with.ensures.err
