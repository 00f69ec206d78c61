-- Why no context is given for a moment.
use Rattle.std.specs.Prelude.{◌≡◌, ℕ, suc, ◌+◌, ◌<◌, ◌≤◌, nat_lt, true, false, List, length, take, filter, slice_get, slice_index, Some}
use Rattle.context_timeline.specs.declared.timed_context.TimedContext.{TimedContext}
use Rattle.context_timeline.specs.State.{timed_context}
use Rattle.sample_binder.specs.declared.reason.Reason.{Reason}
use Rattle.sample_binder.specs.declared.reason.Reason.TheVariants.{BeforeFirst, ContextLost, PendingFull, TimelineFull, Ended, FormatChanged, Shape}
use Rattle.sample_binder.specs.Due.{due}
use Rattle.sample_binder.specs.Events.{contexts_of, packets_of}
use Rattle.reorder_window.specs.Delivery.{occurs, number_absent}
use Rattle.site_truth.specs.Site.{context_moment}
use Rattle.site_truth.specs.Delivered.{Delivery, all_events}

-- what had been released when a packet left: the contexts, by their numbers, and how many data packets behind it
pub record Left : Type 0 where
  pub contexts : List ℕ
  pub later : ℕ

-- what was released are the contexts of these numbers, in this order
pub record AreContextsOf (delivery : Delivery) (numbers : List ℕ) (released : List TimedContext) : Type 0 where
  pub long : length released ≡ length numbers
  pub each : (i : ℕ) → i < length numbers → (lost : ℕ) × (slice_get released i ≡ Some (timed_context (delivery.site.context (slice_index numbers i)) lost))

-- the j-th data packet that is released, from 0, leaves at its due event; of the contexts that arrive, which are these in the
-- order of sending, the first ones are released by then
pub record IsLeft (delivery : Delivery) (contexts : List ℕ) (j : ℕ) (left : Left) : Type 0 where
  pub event : ℕ
  pub is_due : due delivery.limits (all_events delivery) j ≡ Some event
  pub contexts_then : left.contexts ≡ take (length (contexts_of (take (suc event) (all_events delivery)))) contexts
  pub are_released : AreContextsOf delivery left.contexts (contexts_of (take (suc event) (all_events delivery)))
  pub packets_then : j + 1 + left.later ≡ length (packets_of (take (suc event) (all_events delivery)))

-- contexts a and b are neighbours among those that arrive, a not after t and b after t; between them n are absent, one at least
pub record IsLostAround (delivery : Delivery) (t n : ℕ) : Type 0 where
  pub a : ℕ
  pub b : ℕ
  pub a_arrived : occurs a delivery.contexts ≡ true
  pub b_arrived : occurs b delivery.contexts ≡ true
  pub ordered : a < b
  pub neighbours : (m : ℕ) → a < m → m < b → occurs m delivery.contexts ≡ false
  pub reached : context_moment delivery.site a ≤ t
  pub not_yet : t < context_moment delivery.site b
  pub absent : n ≡ number_absent delivery.contexts a b
  pub some : 1 ≤ n

-- no context that arrives is after t
abbrev pub NoneAfter : Delivery → ℕ → Type 0
NoneAfter delivery t = (k : ℕ) → occurs k delivery.contexts ≡ true → context_moment delivery.site k ≤ t

-- each is
abbrev pub AllAfter : Delivery → ℕ → Type 0
AllAfter delivery t = (k : ℕ) → occurs k delivery.contexts ≡ true → t < context_moment delivery.site k

-- how many of these contexts are after t
abbrev pub number_after : Delivery → ℕ → List ℕ → ℕ
number_after delivery t contexts = length (filter (λ k. nat_lt t (context_moment delivery.site k)) contexts)

-- as many data packets as may wait were released while it waited, and no context after t was
pub record IsFullAt (delivery : Delivery) (left : Left) (t : ℕ) : Type 0 where
  pub later : delivery.limits.pending ≤ left.later
  pub none_after : (k : ℕ) → occurs k left.contexts ≡ true → context_moment delivery.site k ≤ t

-- the reason has its cause at the moment t. The format of a packet never changes inside it, and its payload always divides.
abbrev pub IsCause : Delivery → Left → ℕ → Reason → Type 0
IsCause delivery left t (ContextLost n) = IsLostAround delivery t n
IsCause delivery left t BeforeFirst = AllAfter delivery t
IsCause delivery left t TimelineFull = delivery.limits.kept ≤ number_after delivery t left.contexts
IsCause delivery left t PendingFull = IsFullAt delivery left t
IsCause delivery left t Ended = NoneAfter delivery t
IsCause delivery left t FormatChanged = ⊥
IsCause delivery left t Shape = ⊥
