use Rattle.std.proofs.Common.{ap}
use Rattle.difi_gateway.specs.Steps.{gated}
use Rattle.difi_gateway.specs.Telling.{told_now}
use Rattle.difi_gateway.proofs.WriteLemmas.{refused_first}
use Rattle.difi_gateway.proofs.parts.Parts.put_first.Goals as goal

pub returns-in-Refused : goal.returns-in-Refused
returns-in-Refused c =
    refused_first (gated c.args.self.now) c.in-Refused.frame c.in-Refused.port c.in-Refused.refusal c.in-Refused.detail c.in-Refused.stamp
    (ap (told_now c.args.self.now.run) c.in-Refused.is) c.requires.placed c.requires.can _ _ _ c.number.ensures c.push_record.ensures
