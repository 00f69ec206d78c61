-- What is given is the next of the releases.
use Rattle.reorder_window.proofs.WindowLemmas.{drained-given, drained-stands}
use Rattle.reorder_window.proofs.window.Window.drain_one.Goals as goal

pub returns-clause-given : goal.returns-clause-given
returns-clause-given g c = λ h k. rw (← c.self.view_is) (λ s. drained-given _ h k _ _ _ s c.take_least.ensures.least)

pub returns-clause-stands : goal.returns-clause-stands
returns-clause-stands g c = λ h k. rw (← c.self.view_is) (λ s. drained-stands _ h k _ _ _ s c.take_least.ensures.least)
