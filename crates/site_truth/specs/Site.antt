-- What a site sends on one stream, and which context is in force at a moment.
use Rattle.std.specs.Prelude.{◌≡◌, ℕ, ◌+◌, ◌<◌, ◌≤◌, false, List, length, slice_index, Some}
use Rattle.vrt_words.specs.Words.{words_of}
use Rattle.vrt_time.specs.Time.{TimeStamp, moment_of, capture_at}
use Rattle.vrt_header.specs.Profile.{PacketProfile}
use Rattle.vrt_fields.specs.Field.{place_of}
use Rattle.vrt_fields.specs.declared.field.Field.TheVariants.{Format}
use Rattle.difi_context.specs.Context.{IsSpelled}
use Rattle.difi_context.specs.declared.context.ContextRec.{ContextRec}
use Rattle.reorder_window.specs.declared.entry.Entry.{Entry}
use Rattle.reorder_window.specs.Delivery.{IsSent}
use Rattle.sample_binder.specs.Calls.{context_entry, data_stamp, data_count, shape_in}
use Rattle.sample_binder.specs.Given.{IsDataOf}
use Rattle.sample_binder.specs.Samples.{rate_in, size_in, number_of}

-- its contexts and its data packets, each numbered from 0, and how many of each it sends; a data packet is its bytes
pub record Site : Type 0 where
  pub context : ℕ → ContextRec
  pub contexts_sent : ℕ
  pub packet : ℕ → List ℕ
  pub packets_sent : ℕ

-- the two kinds with their stamps and counts
abbrev pub context_sent : Site → ℕ → Entry ContextRec
context_sent site k = context_entry (site.context k)

abbrev pub packet_sent : Site → ℕ → Entry (List ℕ)
packet_sent site n = record { stamp = data_stamp (site.packet n); count = data_count (site.packet n); item = site.packet n }

-- the fields of a context, and the moment of its stamp
abbrev pub fields_at : Site → ℕ → List ℕ
fields_at site k = (site.context k).fields

abbrev pub context_moment : Site → ℕ → ℕ
context_moment site k = moment_of (context_sent site k).stamp

-- of a data packet: its stamp, the moment of it, and how many bits at the end of its payload are unused
abbrev pub packet_stamp : Site → ℕ → TimeStamp
packet_stamp site n = data_stamp (site.packet n)

abbrev pub packet_moment : Site → ℕ → ℕ
packet_moment site n = moment_of (packet_stamp site n)

abbrev pub packet_pad : Site → ℕ → ℕ
packet_pad site n = (shape_in (packet_stamp site n) (site.packet n)).pad

-- context number k is in force at t: the last sent one whose stamp is not above t
pub record IsInForce (site : Site) (t k : ℕ) : Type 0 where
  pub sent : k < site.contexts_sent
  pub reached : context_moment site k ≤ t
  pub last : (m : ℕ) → k < m → m < site.contexts_sent → t < context_moment site m

-- the sample rate and the two words of the payload format are the same
pub record IsSameSampling (a b : List ℕ) : Type 0 where
  pub rate : rate_in a ≡ rate_in b
  pub format_first : slice_index a (place_of Format) ≡ slice_index b (place_of Format)
  pub format_second : slice_index a (place_of Format + 1) ≡ slice_index b (place_of Format + 1)

-- the payload of packet number n divides into so many samples by the item size of context number k
abbrev pub DividesInto : Site → ℕ → ℕ → ℕ → Type 0
DividesInto site n k number = number_of (shape_in (packet_stamp site n) (site.packet n)) (size_in (fields_at site k)) ≡ Some number

-- when its sample number m was captured, by the sample rate of context number k
abbrev pub sample_moment : Site → ℕ → ℕ → ℕ → ℕ
sample_moment site n k m = capture_at (packet_stamp site n) m (rate_in (fields_at site k))

-- where a context is in force at the stamp of packet number n, its payload divides, and neither rate nor format change inside
-- it. A packet before the first context has no such condition.
pub record IsSteady (site : Site) (n : ℕ) : Type 0 where
  pub divides : (k : ℕ) → IsInForce site (packet_moment site n) k → (number : ℕ) × DividesInto site n k number
  pub steady : (k number m j : ℕ) → IsInForce site (packet_moment site n) k → DividesInto site n k number → m < number
      → IsInForce site (sample_moment site n k m) j → IsSameSampling (fields_at site k) (fields_at site j)

-- all are packets of this profile of at most so many words; in each list the stamps rise and the counts run on, modulo 16; a
-- context whose change bit is clear has the fields of the one before it
pub record IsSite (profile : PacketProfile) (most_words : ℕ) (site : Site) : Type 0 where
  pub first_context : ℕ
  pub contexts : IsSent first_context site.contexts_sent (context_sent site)
  pub first_packet : ℕ
  pub packets : IsSent first_packet site.packets_sent (packet_sent site)
  pub are_contexts : (k : ℕ) → k < site.contexts_sent → IsSpelled profile (site.context k)
  pub are_packets : (n : ℕ) → n < site.packets_sent → IsDataOf profile (site.packet n)
  pub most_of_context : 0 < site.contexts_sent → 27 ≤ most_words
  pub most_of_packet : (n : ℕ) → n < site.packets_sent → length (words_of (site.packet n)) ≤ most_words
  pub unchanged : (k : ℕ) → k + 1 < site.contexts_sent → (site.context (k + 1)).changed ≡ false → fields_at site (k + 1) ≡ fields_at site k
  pub are_steady : (n : ℕ) → n < site.packets_sent → IsSteady site n
