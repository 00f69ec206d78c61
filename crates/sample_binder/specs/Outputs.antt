-- What the events of a stream give.
use Rattle.std.specs.Prelude.{ℕ, suc, zero, Bool, true, false, List, [], ◌∷◌, ◌++◌, length, take, slice_get, map, Option, Some, None}
use Rattle.vrt_fields.specs.declared.limits.Limits.{Limits}
use Rattle.sample_binder.specs.declared.out.Out.{Out}
use Rattle.sample_binder.specs.declared.out.Out.TheVariants as out
use Rattle.sample_binder.specs.Pending.{Pending}
use Rattle.sample_binder.specs.declared.reason.Reason.{Reason}
use Rattle.sample_binder.specs.declared.reason.Reason.TheVariants as reason
use Rattle.sample_binder.specs.Events.{Event, packets_of, has_ended, line_after}
use Rattle.sample_binder.specs.Due.{due}
use Rattle.sample_binder.specs.Runs.{runs_of}
use Rattle.context_timeline.specs.State.{TimelineState}

-- why a packet waits no longer, although its mark is open: the end has come, or else too many wait
abbrev pub open_reason : Bool → Reason
open_reason true = reason.Ended
open_reason false = reason.PendingFull

-- how many packets an output has
abbrev pub packets_in : Out → ℕ
packets_in (out.Packet buf lost) = 1
packets_in (out.Run run) = 0

-- a packet and its runs
abbrev pub packet_and_runs : TimelineState → Reason → Pending → List Out
packet_and_runs line why packet = out.Packet packet.buf packet.lost ∷ map out.Run (runs_of line why packet.shape)

-- the same after these events
abbrev pub leaves_after : ℕ → List Event → Option Pending → List Out
leaves_after kept events None = []
leaves_after kept events (Some packet) = packet_and_runs (line_after kept events) (open_reason (has_ended events)) packet

-- packet number j, with its runs as they are at its due event, if it is due by now
abbrev pub leaves_at : Limits → List Event → ℕ → Option ℕ → List Out
leaves_at limits events j None = []
leaves_at limits events j (Some e) = leaves_after limits.kept (take (suc e) events) (slice_get (packets_of (take (suc e) events)) j)

abbrev pub leaves : Limits → List Event → ℕ → List Out
leaves limits events j = leaves_at limits events j (due limits events j)

-- what the first n packets give
abbrev pub outputs_of_first : Limits → List Event → ℕ → List Out
outputs_of_first limits events zero = []
outputs_of_first limits events (suc j) = outputs_of_first limits events j ++ leaves limits events j

-- what the events give, in order: of each packet that is due, the packet and then its runs
abbrev pub outputs : Limits → List Event → List Out
outputs limits events = outputs_of_first limits events (length (packets_of events))
