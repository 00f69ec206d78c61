use Rattle.reorder_window.specs.declared.arrival.Arrival.TheVariants as arrival
use Rattle.sample_binder.proofs.ArrivalLemmas.{same_window}
use Rattle.sample_binder.proofs.arrive.arrive.Goals as goal

pub returns-in-Late-clause-err : goal.returns-in-Late-clause-err
returns-in-Late-clause-err g c = λ arrivals s.
    same_window g.T.HeldItem.is_same c.args.window.now c.arrive.new.self arrivals (record { stamp = c.args.stamp; count = c.args.count; item = c.args.item }) (arrival.Late c.in-Late.boundary c.in-Late.item)
    s (c.in-Late.ensures.stands arrivals s) c.in-Late.ensures.size (c.in-Late.ensures.answer arrivals s) tt

pub returns-in-Repeat-clause-err : goal.returns-in-Repeat-clause-err
returns-in-Repeat-clause-err g c = λ arrivals s.
    same_window g.T.HeldItem.is_same c.args.window.now c.arrive.new.self arrivals (record { stamp = c.args.stamp; count = c.args.count; item = c.args.item }) (arrival.Repeat c.in-Repeat.item)
    s (c.in-Repeat.ensures.stands arrivals s) c.in-Repeat.ensures.size (c.in-Repeat.ensures.answer arrivals s) tt

pub returns-in-Conflict-clause-err : goal.returns-in-Conflict-clause-err
returns-in-Conflict-clause-err g c = λ arrivals s.
    same_window g.T.HeldItem.is_same c.args.window.now c.arrive.new.self arrivals (record { stamp = c.args.stamp; count = c.args.count; item = c.args.item }) (arrival.Conflict c.in-Conflict.held c.in-Conflict.item)
    s (c.in-Conflict.ensures.stands arrivals s) c.in-Conflict.ensures.size (c.in-Conflict.ensures.answer arrivals s) tt
