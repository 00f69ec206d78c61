-- Definitions said again in other words: what events bring, what a due event is, what the stretches of a packet are, and what is read of a data packet.
use Rattle.std.specs.Prelude.{◌≡◌, ◌⊎◌, ℕ, zero, suc, ◌+◌, ◌*◌, ◌<◌, ◌≤◌, true, false, List, [], ◌∷◌, ◌++◌, length, map, Some}
use Rattle.difi_data.specs.Data.{DataPacket}
use Rattle.sample_binder.specs.declared.label.Label.{Label}
use Rattle.vrt_fields.specs.declared.limits.Limits.{Limits}
use Rattle.reorder_window.specs.Window.{releases}
use Rattle.sample_binder.specs.Calls.{Call, EndCall, data_stamp, data_count, shape_in, context_arrivals, data_arrivals, all_releases, events_of}
use Rattle.sample_binder.specs.Due.{has_case_after, due}
use Rattle.sample_binder.specs.Events.{Event, EndEvent, contexts_of, packets_of, has_ended}
use Rattle.sample_binder.specs.Released.{released_context, released_packet}
use Rattle.sample_binder.specs.Runs.{same_label}

-- before the end was told, the events bring what the windows have released, and not the end
pub record AreReleases (limits : Limits) (calls : List Call) : Type 0 where
  pub contexts : contexts_of (events_of limits calls) ≡ map released_context (releases limits.context_window (context_arrivals calls) 0)
  pub packets : packets_of (events_of limits calls) ≡ map released_packet (releases limits.data_window (data_arrivals calls) 0)
  pub running : has_ended (events_of limits calls) ≡ false

-- where the end is told then, they bring all that was accepted, and the end comes last and once
pub record AreAllReleases (limits : Limits) (calls : List Call) : Type 0 where
  pub contexts : contexts_of (events_of limits (calls ++ EndCall ∷ [])) ≡ map released_context (all_releases limits.context_window (context_arrivals calls))
  pub packets : packets_of (events_of limits (calls ++ EndCall ∷ [])) ≡ map released_packet (all_releases limits.data_window (data_arrivals calls))
  pub front : List Event
  pub end_last : events_of limits (calls ++ EndCall ∷ []) ≡ front ++ EndEvent ∷ []
  pub once : has_ended front ≡ false

-- from where packet number j may be due: the first from the beginning, each other one from the due event of the one before
abbrev pub IsSince : Limits → List Event → ℕ → ℕ → Type 0
IsSince limits events zero since = since ≡ 0
IsSince limits events (suc i) since = due limits events i ≡ Some since

-- event number e is the first of those from which on packet number j may be due, at which one of its cases holds
pub record IsDueEvent (limits : Limits) (events : List Event) (j e : ℕ) : Type 0 where
  pub since : ℕ
  pub is_since : IsSince limits events j since
  pub not_before : since ≤ e
  pub come : e < length events
  pub has_case : has_case_after limits events j e ≡ true
  pub first : (k : ℕ) → since ≤ k → k < e → has_case_after limits events j k ≡ false

-- so many samples from one on have its label, and the next one has not, if there is one
pub record IsLongest (labels : ℕ → Label) (number first count : ℕ) : Type 0 where
  pub some : 0 < count
  pub within : first + count ≤ number
  pub alike : (m : ℕ) → first ≤ m → m < first + count → same_label (labels first) (labels m) ≡ true
  pub ends : (first + count ≡ number) ⊎ (same_label (labels first) (labels (first + count)) ≡ false)

-- from this sample on these stretches follow one another up to the last sample
abbrev pub AreStretches : (ℕ → Label) → ℕ → ℕ → List (ℕ × ℕ) → Type 0
AreStretches labels number first [] = first ≡ number
AreStretches labels number first (stretch ∷ rest) =
    (stretch.0 ≡ first) × IsLongest labels number first stretch.1 × AreStretches labels number (first + stretch.1) rest

-- the words tell what the packet says
pub record IsRead (packet : DataPacket) (bytes : List ℕ) : Type 0 where
  pub stamp : packet.prologue.stamp ≡ Some (data_stamp bytes)
  pub count : packet.prologue.header.count ≡ data_count bytes
  pub words : length packet.payload ≡ 4 * (shape_in (data_stamp bytes) bytes).words
  pub pad : packet.prologue.pad ≡ (shape_in (data_stamp bytes) bytes).pad
