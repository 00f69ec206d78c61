use Rattle.difi_gateway.proofs.ReplayLemmas.{end_told, may_take}
use Rattle.difi_gateway.proofs.replaying.ReplayTellerRecordReader.end.Goals as goal

pub end-requires : goal.end-requires
end-requires c =
    record { rest = may_take c.self.inside.gateway c.args.self.now c.in-Some.gateway c.self.view_is c.in-Some.is c.requires.settled.owed c.requires.open }

pub returns-clause-told : goal.returns-clause-told
returns-clause-told c = λ head.
    end_told c.self.inside.gateway c.args.self.now c.in-Some.gateway c.self.view_is c.in-Some.is head _ c.end.new.self c.end.ensures.stands c.requires.open c.end.ensures.ended
