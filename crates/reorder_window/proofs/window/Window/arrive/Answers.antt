-- Each answer is the one that is defined for the arrivals for which the window stands.
use Rattle.std.proofs.Common.{sym}
use Rattle.reorder_window.proofs.WindowLemmas.{late-defined, repeat-defined, conflict-defined, fresh-defined}
use Rattle.reorder_window.proofs.window.Window.arrive.Goals as goal

pub returns-in-NotAbove-clause-answer : goal.returns-in-NotAbove-clause-answer
returns-in-NotAbove-clause-answer g c = λ h. rw (← c.self.view_is) (λ s. (late-defined g.T.HeldItem.is_same _ h _ _ s c.in-NotAbove.ensures).answers)

pub returns-in-NotAbove-clause-stands : goal.returns-in-NotAbove-clause-stands
returns-in-NotAbove-clause-stands g c = λ h. rw (← c.self.view_is) (λ s. (late-defined g.T.HeldItem.is_same _ h _ _ s c.in-NotAbove.ensures).stands)

pub returns-in-NotAbove-clause-given : goal.returns-in-NotAbove-clause-given
returns-in-NotAbove-clause-given g c = λ h. rw (← c.self.view_is) (λ s. (late-defined g.T.HeldItem.is_same _ h _ _ s c.in-NotAbove.ensures).gains)

pub returns-in-SameItem-clause-answer : goal.returns-in-SameItem-clause-answer
returns-in-SameItem-clause-answer g c = λ h. rw (← c.self.view_is) (λ s. (repeat-defined g.T.HeldItem.is_same _ h _ s c.in-SameItem.ensures).answers)

pub returns-in-SameItem-clause-stands : goal.returns-in-SameItem-clause-stands
returns-in-SameItem-clause-stands g c = λ h. rw (← c.self.view_is) (λ s. (repeat-defined g.T.HeldItem.is_same _ h _ s c.in-SameItem.ensures).stands)

pub returns-in-SameItem-clause-given : goal.returns-in-SameItem-clause-given
returns-in-SameItem-clause-given g c = λ h. rw (← c.self.view_is) (λ s. (repeat-defined g.T.HeldItem.is_same _ h _ s c.in-SameItem.ensures).gains)

pub returns-in-OtherItem-clause-answer : goal.returns-in-OtherItem-clause-answer
returns-in-OtherItem-clause-answer g c = λ h. rw (← c.self.view_is) (λ s. (conflict-defined g.T.HeldItem.is_same _ h _ _ s c.in-OtherItem.ensures).answers)

pub returns-in-OtherItem-clause-stands : goal.returns-in-OtherItem-clause-stands
returns-in-OtherItem-clause-stands g c = λ h. rw (← c.self.view_is) (λ s. (conflict-defined g.T.HeldItem.is_same _ h _ _ s c.in-OtherItem.ensures).stands)

pub returns-in-OtherItem-clause-given : goal.returns-in-OtherItem-clause-given
returns-in-OtherItem-clause-given g c = λ h. rw (← c.self.view_is) (λ s. (conflict-defined g.T.HeldItem.is_same _ h _ _ s c.in-OtherItem.ensures).gains)

pub returns-in-Fresh-clause-answer : goal.returns-in-Fresh-clause-answer
returns-in-Fresh-clause-answer g c = λ h. rw (← c.self.view_is) (λ s. (fresh-defined g.T.HeldItem.is_same _ h _ _ _ _ _ _ (sym c.self.invariant.counted) s c.in-Fresh.ensures c.accept.ensures.kept c.accept.ensures.released).answers)

pub returns-in-Fresh-clause-stands : goal.returns-in-Fresh-clause-stands
returns-in-Fresh-clause-stands g c = λ h. rw (← c.self.view_is) (λ s. (fresh-defined g.T.HeldItem.is_same _ h _ _ _ _ _ _ (sym c.self.invariant.counted) s c.in-Fresh.ensures c.accept.ensures.kept c.accept.ensures.released).stands)

pub returns-in-Fresh-clause-given : goal.returns-in-Fresh-clause-given
returns-in-Fresh-clause-given g c = λ h. rw (← c.self.view_is) (λ s. (fresh-defined g.T.HeldItem.is_same _ h _ _ _ _ _ _ (sym c.self.invariant.counted) s c.in-Fresh.ensures c.accept.ensures.kept c.accept.ensures.released).gains)

pub returns-in-Fresh-clause-undrained : goal.returns-in-Fresh-clause-undrained
returns-in-Fresh-clause-undrained g c = record {
  arrivals = _;
  stands = returns-in-Fresh-clause-stands g c c.requires.undrained.arrivals c.requires.undrained.stands;
}
