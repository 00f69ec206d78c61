-- One step of a queue.
use Rattle.std.specs.Prelude.{◌≡◌, ℕ, Bool, List, ◌∷◌, Option, Some}
use Rattle.context_timeline.specs.State.{TimelineState}
use Rattle.sample_binder.specs.declared.give.Leaving.{Leaving}
use Rattle.sample_binder.specs.declared.out.Out.{Out}
use Rattle.sample_binder.specs.declared.out.Out.TheVariants as out
use Rattle.sample_binder.specs.Pending.{Pending}
use Rattle.sample_binder.specs.Queue.{first_decided}

-- the first packet that waits need not wait, and leaves
pub record GivesPacket (pending : ℕ) (line : TimelineState) (ended : Bool) (before after : List Pending) (leaving : Option Leaving) (given : Out) : Type 0 where
  pub packet : Pending
  pub first : before ≡ packet ∷ after
  pub packet_given : given ≡ out.Packet packet.buf packet.lost
  pub decided : first_decided pending line ended before ≡ leaving
  pub now : Leaving
  pub leaves : leaving ≡ Some now
