-- What a contract sees of a gateway, and what it stands for.
use Rattle.std.specs.Prelude.{◌≡◌, ℕ, ◌+◌, ◌*◌, ◌<◌, ◌≤◌, ◌^◌, Bool, true, false, nat_lt, if◌then◌else◌, List, [], ◌∷◌, ◌++◌, length, drop, slice_get, Option, Some, None}
use Rattle.std.specs.List.{AllByRecursion, flat_map, sum_by}
use Rattle.vrt_words.specs.Buffer.{Buffer}
use Rattle.vrt_header.specs.Profile.{PacketProfile}
use Rattle.vrt_fields.specs.declared.route.Route.{Route}
use Rattle.replay_form.specs.HeadValues.{AreHeadValues}
use Rattle.replay_form.specs.declared.record_head.RecordHead.{RecordHead}
use Rattle.sample_binder.specs.Binder as binder
use Rattle.sample_binder.specs.Binder.{BinderState, number_kept}
use Rattle.sample_binder.specs.Calls.{Call, EndCall, outputs_of, given_by}
use Rattle.sample_binder.specs.Parts.{payload_of}
use Rattle.sample_binder.specs.Queue.{owed}
use Rattle.sample_binder.specs.declared.out.Out.{Out}
use Rattle.release_form.specs.declared.shown.Shown.TheVariants as shown
use Rattle.stream_routes.specs.Ports.{ports_at}
use Rattle.difi_gateway.specs.Contents.{Received, IsReceived}
use Rattle.difi_gateway.specs.Calls.{calls}
use Rattle.difi_gateway.specs.Datagrams.{HoldBytes}
use Rattle.difi_gateway.specs.Told.{Item, RefusedItem, RunItem, VersionItem, runs_from, runs_told, told}
use Rattle.difi_gateway.specs.Releases.{Release, all_told, copies, counts_of, out_of, part_of}
use Rattle.difi_gateway.specs.Telling.{Telling}
use Rattle.difi_gateway.specs.Telling as telling
use Rattle.difi_gateway.specs.declared.stage.Stage.{Stage}
use Rattle.difi_gateway.specs.declared.stage.Stage.TheVariants as stages

-- The profile, the most words of a packet, the routes, a binder for each route, and the buffers that no binder keeps, of which the
-- last one has the packet that is told, with how many there is memory for; the counts of what was told, and how many frames and bytes of datagrams were taken; what is
-- told now, for which port of its stream, and the number lost before the packet whose runs are told, until it is told; and where the
-- gateway stands.
pub record Gated : Type 0 where
  pub profile : PacketProfile
  pub max_words : ℕ
  pub routes : List Route
  pub binders : List BinderState
  pub empty : List Buffer
  pub capacity : ℕ
  pub counts : List ℕ
  pub taken : ℕ
  pub telling : Telling
  pub place : ℕ
  pub lost : ℕ
  pub stage : Stage

-- ---- what is told now

-- the packet in the last of the buffers
abbrev pub packet_in : List Buffer → List ℕ
packet_in [] = []
packet_in (buf ∷ []) = buf.bytes
packet_in (buf ∷ next ∷ rest) = packet_in (next ∷ rest)

abbrev pub stream_in : Option Route → ℕ
stream_in None = 0
stream_in (Some route) = route.stream

-- the stream of a route
abbrev pub stream_at : List Route → ℕ → ℕ
stream_at routes index = stream_in (slice_get routes index)

abbrev pub items_in : List Route → List ℕ → Telling → List Item
items_in routes packet telling.Nothing = []
items_in routes packet (telling.Refused frame port refusal detail stamp) = RefusedItem frame port refusal detail stamp ∷ []
items_in routes packet (telling.Run index lost run) = RunItem (stream_at routes index) lost run (payload_of packet) ∷ []
items_in routes packet (telling.Version index) = VersionItem (stream_at routes index) packet ∷ []

-- its copies for the ports that are left
abbrev pub copies_left : Gated → List Release
copies_left gate = drop gate.place (copies gate.routes (items_in gate.routes (packet_in gate.empty) gate.telling))

-- ---- the end

abbrev pub is_ended : Stage → Bool
is_ended stages.Waiting = false
is_ended (stages.Drawing index) = false
is_ended (stages.Ending index) = true
is_ended stages.Over = true

abbrev pub items_of : RecordHead → List Received → Bool → List Item
items_of head received ended = if ended then all_told head received else told head received

abbrev pub releases_of : RecordHead → List Received → Bool → List Release
releases_of head received ended = if ended then out_of head received else part_of head received

-- what the end adds for these routes
abbrev pub told_at_end_of : RecordHead → List Received → List Route → List Item
told_at_end_of head received routes =
    flat_map (λ route. runs_told route.stream (given_by head.limits (calls head route.stream received) EndCall)) routes

abbrev pub end_release : RecordHead → List Received → List Release
end_release head received =
    record { shown = shown.End (counts_of (length received) (all_told head received)); payload = [] } ∷ []

-- ---- what is left to be told

-- where a binder has these outputs left
abbrev pub runs_left : Gated → ℕ → List Out → List Item
runs_left gate index left = runs_from (stream_at gate.routes index) gate.lost (payload_of (packet_in gate.empty)) left

-- what is left by where the gateway stands
abbrev pub items_left : RecordHead → List Received → Gated → List Out → Stage → List Item
items_left head received gate left stages.Waiting = []
items_left head received gate left (stages.Drawing index) = runs_left gate index left
items_left head received gate left (stages.Ending index) = runs_left gate index left ++ told_at_end_of head received (drop (index + 1) head.routes)
items_left head received gate left stages.Over = []

-- the counts come last
abbrev pub end_left : RecordHead → List Received → Stage → List Release
end_left head received stages.Waiting = []
end_left head received (stages.Drawing index) = []
end_left head received (stages.Ending index) = end_release head received
end_left head received stages.Over = []

-- ---- the binders

-- how many binders were told the end
abbrev pub number_ended : ℕ → Stage → ℕ
number_ended routes stages.Waiting = 0
number_ended routes (stages.Drawing index) = 0
number_ended routes (stages.Ending index) = index + 1
number_ended routes stages.Over = routes

-- whether a binder is the one that gives its outputs
abbrev pub is_drawn : Stage → ℕ → Type 0
is_drawn stages.Waiting k = ⊥
is_drawn (stages.Drawing index) k = k ≡ index
is_drawn (stages.Ending index) k = k ≡ index
is_drawn stages.Over k = ⊥

-- the calls of a stream's binder, with the end, where it was told
abbrev pub calls_with : Bool → List Call → List Call
calls_with false calls = calls
calls_with true calls = calls ++ EndCall ∷ []

-- it keeps no more than its window and its queue may hold
abbrev pub IsKeptFew : BinderState → Type 0
IsKeptFew bound = number_kept bound ≤ bound.limits.data_window + 1 + bound.limits.pending

-- a binder has had these calls, and these outputs are left
pub record IsStream (head : RecordHead) (calls : List Call) (left : List Out) (bound : BinderState) : Type 0 where
  pub profile : bound.profile ≡ head.profile
  pub limits : bound.limits ≡ head.limits
  pub few : bound.given ≤ length calls
  pub kept : IsKeptFew bound
  pub taken : ℕ
  pub stands : binder.StandsFor bound calls taken
  pub left_is : left ≡ drop taken (outputs_of head.limits calls)

-- all was taken
pub record IsIdle (head : RecordHead) (calls : List Call) (bound : BinderState) : Type 0 where
  pub stream : IsStream head calls [] bound
  pub nothing : owed bound.state ≡ []

-- binder number k, of this route: the one that gives has these outputs left, and each other one none
pub record IsBinder (head : RecordHead) (received : List Received) (stage : Stage) (left : List Out) (k : ℕ) (route : Route) (bound : BinderState) : Type 0 where
  pub drawn : is_drawn stage k → IsStream head (calls_with (nat_lt k (number_ended (length head.routes) stage)) (calls head route.stream received)) left bound
  pub idle : (is_drawn stage k → ⊥) → IsIdle head (calls_with (nat_lt k (number_ended (length head.routes) stage)) (calls head route.stream received)) bound

-- behind the last binder no output is left
abbrev pub IsNoneBehind : Stage → ℕ → List Out → Type 0
IsNoneBehind stages.Waiting routes left = Unit {0}
IsNoneBehind (stages.Drawing index) routes left = Unit {0}
IsNoneBehind (stages.Ending index) routes left = routes ≤ index → left ≡ []
IsNoneBehind stages.Over routes left = Unit {0}

-- one for each route
pub record AreBinders (head : RecordHead) (received : List Received) (stage : Stage) (left : List Out) (binders : List BinderState) : Type 0 where
  pub all : length binders ≡ length head.routes
  pub none_behind : IsNoneBehind stage (length head.routes) left
  pub each : (k : ℕ) (route : Route) (bound : BinderState) → slice_get head.routes k ≡ Some route → slice_get binders k ≡ Some bound → IsBinder head received stage left k route bound

-- ---- what it stands for

-- what of the header it knows
pub record IsOf (head : RecordHead) (gate : Gated) : Type 0 where
  pub values : AreHeadValues head
  pub profile : gate.profile ≡ head.profile
  pub max_words : gate.max_words ≡ head.max_words
  pub routes : gate.routes ≡ head.routes

-- a frame is taken with its datagram
abbrev pub bytes_taken : Received → ℕ
bytes_taken received = 1 + length received.frame.datagram

-- how many buffers there are: one for each packet that the binders may keep, and one more
abbrev pub number_of_buffers : RecordHead → ℕ
number_of_buffers head = length head.routes * (head.limits.data_window + 1 + head.limits.pending) + 1

abbrev pub HasRoom : ℕ → Buffer → Type 0
HasRoom max_words buf = buf.room ≡ 4 * max_words

-- all of them are kept by the binders, or empty
pub record AreBuffers (head : RecordHead) (binders : List BinderState) (empty : List Buffer) : Type 0 where
  pub all : length empty + sum_by number_kept binders ≡ number_of_buffers head
  pub rooms : AllByRecursion (HasRoom head.max_words) empty

-- a copy of what is told is left
abbrev pub IsPlaced : List Route → Telling → ℕ → Type 0
IsPlaced routes telling.Nothing place = Unit {0}
IsPlaced routes (telling.Refused frame port refusal detail stamp) place = place ≡ 0
IsPlaced routes (telling.Run index lost run) place = (index < length routes) × (place < length (ports_at routes index))
IsPlaced routes (telling.Version index) place = (index < length routes) × (place < length (ports_at routes index))

-- what was begun ends with what is told now
pub record EndsWith (begun now : List Item) : Type 0 where
  pub before : List Item
  pub begun_is : begun ≡ before ++ now

-- a gateway for the records of this header has had these frames, the end, where it was told, and gave so many releases
pub record StandsFor (gate : Gated) (head : RecordHead) (received : List Received) (ended : Bool) (given : ℕ) : Type 0 where
  pub is_of : IsOf head gate
  pub contents : AllByRecursion (IsReceived head) received
  pub fit : HoldBytes received
  pub taken : gate.taken ≡ sum_by bytes_taken received
  pub ended_is : ended ≡ is_ended gate.stage
  pub left : List Out
  pub binders : AreBinders head received gate.stage left gate.binders
  pub buffers : AreBuffers head gate.binders gate.empty
  -- what was begun is counted; with what is left it is all that is told
  pub begun : List Item
  pub items : begun ++ items_left head received gate left gate.stage ≡ items_of head received ended
  pub now : EndsWith begun (items_in gate.routes (packet_in gate.empty) gate.telling)
  pub placed : IsPlaced gate.routes gate.telling gate.place
  pub counts : gate.counts ≡ counts_of (length received) begun
  -- the releases that are left
  pub few : given ≤ length (releases_of head received ended)
  pub rest : drop given (releases_of head received ended)
      ≡ copies_left gate ++ (copies head.routes (items_left head received gate left gate.stage) ++ end_left head received gate.stage)

-- nothing is told, and no binder gives anything: it waits for a frame, or the end
pub record IsAtRest (gate : Gated) : Type 0 where
  pub stage : gate.stage ≡ stages.Waiting
  pub telling : gate.telling ≡ telling.Nothing

-- the binder that gives what a frame made due is there
abbrev pub IsWithin : Stage → ℕ → Type 0
IsWithin stages.Waiting number = Unit {0}
IsWithin (stages.Drawing index) number = index < number
IsWithin (stages.Ending index) number = Unit {0}
IsWithin stages.Over number = Unit {0}

-- there is a list of frames that a gateway stands for, and there is memory for all buffers
pub record IsSound (gate : Gated) : Type 0 where
  pub head : RecordHead
  pub received : List Received
  pub given : ℕ
  pub stands : StandsFor gate head received (is_ended gate.stage) given
  pub buffers : length gate.empty + sum_by number_kept gate.binders ≤ gate.capacity
  pub small : gate.taken < 2 ^ 63
  pub drawing : IsWithin gate.stage (length gate.binders)

-- of so many binders none can be drawn from
abbrev pub IsAtHalt : Stage → (number : ℕ) → Type 0
IsAtHalt stages.Waiting number = Unit {0}
IsAtHalt (stages.Drawing index) number = ⊥
IsAtHalt (stages.Ending index) number = number ≤ index
IsAtHalt stages.Over number = Unit {0}

-- something is told now, or no binder can be drawn from
abbrev pub IsDrawnAhead : Gated → Type 0
IsDrawnAhead gate = gate.telling ≡ telling.Nothing → IsAtHalt gate.stage (length gate.binders)

-- what is true of every gateway
pub record IsReady (gate : Gated) : Type 0 where
  pub sound : IsSound gate
  pub ahead : IsDrawnAhead gate
