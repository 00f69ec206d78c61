use Rattle.std.proofs.Common.{subst, sym}
use Rattle.difi_gateway.specs.Progress.{IsSettledAt}
use Rattle.difi_gateway.proofs.ReplayLemmas.{next_told, none_owed}
use Rattle.difi_gateway.proofs.replaying.ReplayTellerRecordReader.next.Goals as goal

pub returns-clause-none : goal.returns-clause-none
returns-clause-none c = λ e.
    let none = c.put_record.ensures.none e in
    none_owed c.put_record.new.self (subst IsSettledAt (sym none.same) none.settled)

pub returns-clause-told : goal.returns-clause-told
returns-clause-told c = λ head.
    next_told c.self.inside.gateway c.args.self.now c.in-Some.gateway c.self.view_is c.in-Some.is head c.put_record.new.self _ _ c.put_record.result
    c.put_record.ensures.given c.put_record.ensures.same c.put_record.ensures.none
