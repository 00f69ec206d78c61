use Rattle.std.proofs.Common.{◌≡◌, sym, ap, subst}
use Rattle.vrt_time.specs.Time.{TimeStamp}
use Rattle.context_timeline.specs.State.{stamp_in}
use Rattle.difi_context.specs.contracts.context.ContextRecPartialEq.TheImpl as same
use Rattle.sample_binder.specs.Arrivals.{Takes}
use Rattle.sample_binder.proofs.arrive.arrive_context.Goals as goal

pub returns-clause-takes : goal.returns-clause-takes
returns-clause-takes c = λ arrivals s.
    let rec = c.args.rec in
    let stamp : c.stamp-stamp.result ≡ stamp_in rec.prologue.stamp = sym (ap stamp_in c.stamp-stamp.ensures) in
    subst (λ (st : TimeStamp). Takes same.eq-value.it c.args.window.now c.arrive.new.window arrivals (record { stamp = st; count = rec.prologue.header.count; item = rec }) c.arrive.result) stamp
    (record { answered = c.arrive.ensures.answer arrivals s; stands = c.arrive.ensures.stands arrivals s; given = c.arrive.ensures.given arrivals s; unchanged = c.arrive.ensures.err arrivals s })
