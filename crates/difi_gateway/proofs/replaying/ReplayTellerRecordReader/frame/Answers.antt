use Rattle.difi_gateway.proofs.ReplayLemmas.{may_count, may_take, one_counted, one_told}
use Rattle.difi_gateway.proofs.replaying.ReplayTellerRecordReader.frame.Goals as goal

pub frame-requires-2-clause-few : goal.frame-requires-2-clause-few
frame-requires-2-clause-few c =
    may_count c.self.inside.gateway c.args.self.now c.in-Some-gateway.gateway c.self.view_is c.in-Some-gateway.is
    c.args.intake.now c.args.bytes.now c.in-Some.received.0 c.in-Some.received.1 c.in-Some.received.2.now c.in-Some.ensures.held c.requires.whole.3.1.1 c.requires.count

pub frame-requires-2-clause-rest : goal.frame-requires-2-clause-rest
frame-requires-2-clause-rest c =
    may_take c.self.inside.gateway c.args.self.now c.in-Some-gateway.gateway c.self.view_is c.in-Some-gateway.is c.requires.settled.owed c.requires.open

pub returns-clause-counts : goal.returns-clause-counts
returns-clause-counts c = λ frame whole.
    one_counted c.self.inside.gateway c.args.self.now c.in-Some-gateway.gateway c.self.view_is c.in-Some-gateway.is
    c.args.intake.now c.args.bytes.now frame c.in-Some.received.0 c.in-Some.received.1 c.in-Some.received.2.now c.frame-2.new.self c.in-Some.ensures.held whole c.frame-2.ensures.taken
    c.requires.open c.frame-2.ensures.running

pub returns-clause-told : goal.returns-clause-told
returns-clause-told c = λ head frame known whole.
    one_told c.self.inside.gateway c.args.self.now c.in-Some-gateway.gateway c.self.view_is c.in-Some-gateway.is
    c.args.intake.now c.args.bytes.now head frame c.in-Some.received.0 c.in-Some.received.1 c.in-Some.received.2.now _ c.frame-2.new.self c.in-Some.ensures.held whole c.frame-2.ensures.stands
    c.requires.open c.frame-2.ensures.running
