use Rattle.difi_gateway.proofs.ReplayLemmas.{begun_keeps, begun_on}
use Rattle.difi_gateway.proofs.replaying.ReplayTellerRecordReader.begin.Goals as goal

pub returns-clause-keeps : goal.returns-clause-keeps
returns-clause-keeps c =
    begun_keeps c.in-Some.head.now c.self.inside.gateway c.args.self.now c.in-Ok.gateway c.is_some.result c.self.view_is c.is_some.ensures c.if-is_some.false c.in-Ok.ensures.stands

pub returns-clause-goes : goal.returns-clause-goes
returns-clause-goes c = λ head known.
    begun_on c.args.intake.now c.in-Some.head.now head c.self.inside.gateway c.args.self.now c.in-Ok.gateway c.is_some.result c.self.view_is c.is_some.ensures c.if-is_some.false c.in-Some.ensures.head known
    c.in-Ok.ensures.stands
