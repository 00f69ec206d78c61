use Rattle.context_timeline.proofs.AllContextsLaws.{IsMark-mark_in}
use Rattle.context_timeline.proofs.laws.marks_speak_of_all_contexts.Goals as goal

pub returns : goal.returns
returns c = λ limit contexts moment rise. IsMark-mark_in limit contexts moment rise
