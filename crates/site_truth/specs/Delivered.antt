-- How what a site sends on one stream is delivered to a binder.
use Rattle.std.specs.Prelude.{◌≡◌, ℕ, zero, suc, ◌<◌, true, false, List, [], ◌∷◌, ◌++◌, map, length, slice_index}
use Rattle.vrt_words.specs.Buffer.{Buffer}
use Rattle.vrt_fields.specs.declared.limits.Limits.{Limits}
use Rattle.vrt_fields.specs.Limits.{AreLimits}
use Rattle.context_timeline.specs.State.{IsRising}
use Rattle.reorder_window.specs.declared.entry.Entry.{Entry}
use Rattle.reorder_window.specs.Delivery.{occurs, IsDelivery, number_absent}
use Rattle.sample_binder.specs.Calls.{Call, EndCall, context_arrivals, data_arrivals, data_entry, is_told, events_of}
use Rattle.sample_binder.specs.Events.{Event}
use Rattle.site_truth.specs.Site.{Site, context_sent}

-- what the binder was opened with, what the site sends, the numbers of the contexts and of the data packets that arrive, in the
-- order of arrival, the room of the buffers, and the calls before the end is told
pub record Delivery : Type 0 where
  pub limits : Limits
  pub site : Site
  pub contexts : List ℕ
  pub packets : List ℕ
  pub room : ℕ
  pub calls : List Call

-- a data packet in a buffer
abbrev pub buffer_of : Delivery → ℕ → Buffer
buffer_of delivery n = record { room = delivery.room; bytes = delivery.site.packet n }

abbrev pub packet_arriving : Delivery → ℕ → Entry Buffer
packet_arriving delivery n = data_entry (buffer_of delivery n)

-- each kind is delivered within its window, with fewer than sixteen losses in a row, and the calls give what arrives of it, in
-- that order; the two kinds may stand in any order between one another; and the end is told behind them
pub record IsDelivered (delivery : Delivery) : Type 0 where
  pub limits : AreLimits delivery.limits
  pub contexts : IsDelivery delivery.limits.context_window delivery.site.contexts_sent delivery.contexts
  pub packets : IsDelivery delivery.limits.data_window delivery.site.packets_sent delivery.packets
  pub contexts_given : context_arrivals delivery.calls ≡ map (context_sent delivery.site) delivery.contexts
  pub packets_given : data_arrivals delivery.calls ≡ map (packet_arriving delivery) delivery.packets
  pub not_told : is_told delivery.calls ≡ false

-- all calls, of which the last tells the end, and the events that they cause
abbrev pub all_calls : Delivery → List Call
all_calls delivery = delivery.calls ++ EndCall ∷ []

abbrev pub all_events : Delivery → List Event
all_events delivery = events_of delivery.limits (all_calls delivery)

-- these are the numbers that arrived, each once, in the order of sending
pub record AreInOrder (arrived numbers : List ℕ) : Type 0 where
  pub rising : IsRising numbers
  pub inside : (i : ℕ) → i < length numbers → occurs (slice_index numbers i) arrived ≡ true
  pub all : (k : ℕ) → occurs k arrived ≡ true → (i : ℕ) × (i < length numbers) × (slice_index numbers i ≡ k)

-- how many are absent between the i-th of them and the one before it, and none before the first
abbrev pub absent_before : List ℕ → List ℕ → ℕ → ℕ
absent_before arrived numbers zero = 0
absent_before arrived numbers (suc i) = number_absent arrived (slice_index numbers i) (slice_index numbers (suc i))
