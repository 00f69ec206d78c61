-- The calls of a binder, and the events that they cause.
use Rattle.std.specs.Prelude.{ℕ, ◌-◌, Bool, true, false, List, [], ◌∷◌, ◌++◌, length, drop, map, slice_index, Option, Some, None, Result, Ok, Err}
use Rattle.vrt_words.specs.Words.{words_of, bits}
use Rattle.vrt_words.specs.Buffer.{Buffer}
use Rattle.vrt_time.specs.Time.{TimeStamp, stamp_of, fraction_of}
use Rattle.difi_context.specs.declared.context.ContextRec.{ContextRec}
use Rattle.context_timeline.specs.State.{stamp_in, timed_context}
use Rattle.reorder_window.specs.declared.entry.Entry.{Entry}
use Rattle.reorder_window.specs.declared.arrival.Arrival.{Arrival}
use Rattle.reorder_window.specs.declared.arrival.Arrival.TheVariants as arrival
use Rattle.reorder_window.specs.Window.{accepted, in_order, releases}
use Rattle.vrt_fields.specs.declared.limits.Limits.{Limits}
use Rattle.sample_binder.specs.declared.front.Front.{Front}
use Rattle.sample_binder.specs.declared.out.Out.{Out}
use Rattle.sample_binder.specs.declared.sampling.Shape.{Shape}
use Rattle.sample_binder.specs.declared.arrive.Turned.{Turned}
use Rattle.sample_binder.specs.declared.arrive.Turned.TheVariants as turned
use Rattle.sample_binder.specs.Events.{Event, ContextEvent, DataEvent, EndEvent}
use Rattle.sample_binder.specs.Outputs.{outputs}

-- a context packet is given, or the buffer of a data packet, or the stream ends
pub data Call : Type 0 where
  ContextCall : ContextRec → Call
  DataCall : Buffer → Call
  EndCall : Call

-- what stands in the words of a data packet: its stamp, its count, the size and the unused bits of its payload
abbrev pub data_stamp : List ℕ → TimeStamp
data_stamp bytes =
    stamp_of (slice_index (words_of bytes) 4) (fraction_of (slice_index (words_of bytes) 5) (slice_index (words_of bytes) 6))

abbrev pub data_count : List ℕ → ℕ
data_count bytes = bits (slice_index (words_of bytes) 0) 16 4

abbrev pub front_in : List ℕ → Front
front_in bytes = record { stamp = data_stamp bytes; count = data_count bytes }

abbrev pub shape_in : TimeStamp → List ℕ → Shape
shape_in stamp bytes =
    record { stamp = stamp; words = length (words_of bytes) - 7; pad = bits (slice_index (words_of bytes) 2) 27 5 }

-- the two kinds as they arrive at their windows
abbrev pub context_entry : ContextRec → Entry ContextRec
context_entry rec = record { stamp = stamp_in rec.prologue.stamp; count = rec.prologue.header.count; item = rec }

abbrev pub data_entry : Buffer → Entry Buffer
data_entry buf = record { stamp = data_stamp buf.bytes; count = data_count buf.bytes; item = buf }

abbrev pub context_arrivals : List Call → List (Entry ContextRec)
context_arrivals [] = []
context_arrivals (ContextCall rec ∷ calls) = context_entry rec ∷ context_arrivals calls
context_arrivals (DataCall buf ∷ calls) = context_arrivals calls
context_arrivals (EndCall ∷ calls) = context_arrivals calls

abbrev pub data_arrivals : List Call → List (Entry Buffer)
data_arrivals [] = []
data_arrivals (ContextCall rec ∷ calls) = data_arrivals calls
data_arrivals (DataCall buf ∷ calls) = data_entry buf ∷ data_arrivals calls
data_arrivals (EndCall ∷ calls) = data_arrivals calls

-- whether the end was told
abbrev pub is_told : List Call → Bool
is_told [] = false
is_told (ContextCall rec ∷ calls) = is_told calls
is_told (DataCall buf ∷ calls) = is_told calls
is_told (EndCall ∷ calls) = true

-- a release of each window as an event
abbrev pub context_event : TimeStamp × ℕ × ContextRec → Event
context_event release = ContextEvent (timed_context release.2 release.1)

abbrev pub data_event : TimeStamp × ℕ × Buffer → Event
data_event release =
    DataEvent (record { buf = release.2; shape = shape_in release.0 release.2.bytes; lost = release.1 })

-- what comes behind these
abbrev pub behind : {X : Type 0} → List X → List X → List X
behind before all = drop (length before) all

-- at the end all that were accepted are released
abbrev pub all_releases : {T : Type 0} → ℕ → List (Entry T) → List (TimeStamp × ℕ × T)
all_releases size arrivals = in_order (accepted size arrivals)

-- the events that a call causes after these: the release that an arrival causes; at the end the held contexts, then the held
-- data packets, and then the end itself
abbrev pub events_by : Limits → List Call → Call → List Event
events_by limits before (ContextCall rec) =
    map context_event (behind (releases limits.context_window (context_arrivals before) 0) (releases limits.context_window (context_arrivals before ++ context_entry rec ∷ []) 0))
events_by limits before (DataCall buf) =
    map data_event (behind (releases limits.data_window (data_arrivals before) 0) (releases limits.data_window (data_arrivals before ++ data_entry buf ∷ []) 0))
events_by limits before EndCall =
    map context_event (behind (releases limits.context_window (context_arrivals before) 0) (all_releases limits.context_window (context_arrivals before)))
    ++ (map data_event (behind (releases limits.data_window (data_arrivals before) 0) (all_releases limits.data_window (data_arrivals before)))
    ++ EndEvent ∷ [])

abbrev pub events_from : Limits → List Call → List Call → List Event
events_from limits before [] = []
events_from limits before (call ∷ calls) = events_by limits before call ++ events_from limits (before ++ call ∷ []) calls

-- the events of a list of calls
abbrev pub events_of : Limits → List Call → List Event
events_of limits calls = events_from limits [] calls

-- what they give
abbrev pub outputs_of : Limits → List Call → List Out
outputs_of limits calls = outputs limits (events_of limits calls)

-- what a call adds to what the calls before it gave
abbrev pub given_by : Limits → List Call → Call → List Out
given_by limits calls call = behind (outputs_of limits calls) (outputs_of limits (calls ++ call ∷ []))

-- how an arrival is answered: what it releases, or why it is not taken, with the packet
abbrev pub outcome : {T : Type 0} → Arrival T → Result (Option (TimeStamp × ℕ × T)) (Turned × T)
outcome arrival.Kept = Ok None
outcome (arrival.Released stamp lost item) = Ok (Some (stamp, lost, item))
outcome (arrival.Late boundary item) = Err (turned.Late boundary, item)
outcome (arrival.Repeat item) = Err (turned.Repeat, item)
outcome (arrival.Conflict held item) = Err (turned.Conflict held, item)
