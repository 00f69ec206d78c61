-- What is needed to drain the windows, one event after another.
use Rattle.std.specs.Prelude.{◌≡◌, ℕ, ◌+◌, ◌<◌, ◌≤◌, ◌^◌, Bool, true, if◌then◌else◌, List, length}
use Rattle.vrt_words.specs.Buffer.{Buffer}
use Rattle.difi_context.specs.declared.context.ContextRec.{ContextRec}
use Rattle.context_timeline.specs.State.{TimelineState}
use Rattle.reorder_window.specs.State.{Holding}
use Rattle.vrt_fields.specs.declared.limits.Limits.{Limits}
use Rattle.sample_binder.specs.Binder.{AreContextsSeen, ArePacketsSeen, Follows}
use Rattle.sample_binder.specs.Calls.{Call}
use Rattle.sample_binder.specs.Queue.{State}

-- the contexts that are held may be added, one after another
pub record MayDrain (contexts : Holding ContextRec) (line : TimelineState) : Type 0 where
  pub kept : ℕ
  pub given : ℕ
  pub some : 0 < kept
  pub few : given ≤ 2 ^ 63
  pub seen : AreContextsSeen kept given contexts line true

-- how many events are left: one for each packet that is held, and the end
abbrev pub steps_left : Holding ContextRec → Holding Buffer → Bool → ℕ
steps_left contexts packets ended = length contexts.held + length packets.held + (if ended then 0 else 1)

-- what events of the end keep: what is true of the windows, and what they and the queue stand for
pub record Drains (contexts : Holding ContextRec) (packets : Holding Buffer) (state : State) (contexts_after : Holding ContextRec) (packets_after : Holding Buffer) (after : State) : Type 0 where
  pub contexts_seen : (kept given : ℕ) → AreContextsSeen kept given contexts state.line true → AreContextsSeen kept given contexts_after after.line true
  pub packets_seen : ArePacketsSeen packets true → ArePacketsSeen packets_after true
  pub follows : (limits : Limits) (calls : List Call) (taken : ℕ) → Follows limits contexts packets state true calls taken → Follows limits contexts_after packets_after after true calls taken
  pub context_size : contexts_after.size ≡ contexts.size
  pub data_size : packets_after.size ≡ packets.size
  pub pending : after.pending ≡ state.pending
  pub kept : length packets_after.held + length after.queue ≡ length packets.held + length state.queue
