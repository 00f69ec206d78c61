-- What a release makes of the timeline and of the packets that wait.
use Rattle.std.specs.Prelude.{ℕ, List, [], ◌∷◌, ◌++◌, Option, Some, None}
use Rattle.vrt_words.specs.Buffer.{Buffer}
use Rattle.vrt_time.specs.Time.{TimeStamp}
use Rattle.difi_context.specs.declared.context.ContextRec.{ContextRec}
use Rattle.context_timeline.specs.declared.timed_context.TimedContext.{TimedContext}
use Rattle.context_timeline.specs.State.{TimelineState, with_context, timed_context}
use Rattle.sample_binder.specs.Pending.{Pending}
use Rattle.sample_binder.specs.Calls.{shape_in}

-- a context that was released, with its number lost
abbrev pub released_context : TimeStamp × ℕ × ContextRec → TimedContext
released_context release = timed_context release.2 release.1

abbrev pub with_released : TimelineState → Option (TimeStamp × ℕ × ContextRec) → TimelineState
with_released line None = line
with_released line (Some release) = with_context line (released_context release)

-- and a data packet
abbrev pub released_packet : TimeStamp × ℕ × Buffer → Pending
released_packet release = record { buf = release.2; shape = shape_in release.0 release.2.bytes; lost = release.1 }

abbrev pub queue_with : List Pending → Option (TimeStamp × ℕ × Buffer) → List Pending
queue_with queue None = queue
queue_with queue (Some release) = queue ++ released_packet release ∷ []
