-- Both follow from what was seen of a part of the delivery.
use Rattle.std.proofs.Common.{refl}
use Rattle.reorder_window.proofs.DeliveryLemmas.{final-accepted, final-below, final-answered, final-once}
use Rattle.reorder_window.proofs.laws.first_arrivals_are_accepted.Goals as goal

pub returns-clause-accepted : goal.returns-clause-accepted
returns-clause-accepted g c = λ start total size packet order before after k s d e f.
    let r = final-accepted start total size packet order before after k s d e f in rw (r.0, r.1) refl

pub returns-clause-answered : goal.returns-clause-answered
returns-clause-answered g c = λ start total size packet order before after k same s d e f. final-answered start total size packet order before after k same s d e f

pub returns-clause-below : goal.returns-clause-below
returns-clause-below g c = λ start total size packet order before later k s d e f h. final-below start total size packet order before later k s d e f h

pub returns-clause-once : goal.returns-clause-once
returns-clause-once g c = λ start total size packet order before later s d e. final-once start total size packet order before later s d e
