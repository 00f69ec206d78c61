use Rattle.std.proofs.Common.{inl, inr}
use Rattle.difi_texts.proofs.command_details.push_ack.Goals as goal

pub returns-in-V-clause-text : goal.returns-in-V-clause-text
returns-in-V-clause-text c = elim c.in-V.is [
  | inl validated ↦ rw validated c.push_report.ensures.text
  | inr executed ↦ rw executed c.push_report.ensures.text
]
