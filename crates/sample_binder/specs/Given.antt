-- What is true of the packets that a binder is given.
use Rattle.std.specs.Prelude.{◌≡◌, ℕ, ◌*◌, ◌^◌, ◌<◌, ◌≤◌, List, length, slice_index, IfSome}
use Rattle.vrt_words.specs.Words.{words_of}
use Rattle.vrt_words.specs.Begins.{IsDatagram}
use Rattle.vrt_words.specs.Buffer.{Buffer}
use Rattle.vrt_time.specs.Time.{fraction_of, moment_of}
use Rattle.vrt_header.specs.Profile.{PacketProfile}
use Rattle.difi_context.specs.Context.{IsInGrammar}
use Rattle.difi_context.specs.declared.context.ContextRec.{ContextRec}
use Rattle.difi_data.specs.Data.{DataPacket, IsData}
use Rattle.context_timeline.specs.State.{TimelineState, stamp_in, horizon_of}
use Rattle.reorder_window.specs.declared.entry.Entry.{Entry}
use Rattle.sample_binder.specs.Calls.{data_stamp}

-- the bytes are a data packet of this profile
pub record IsDataOf (profile : PacketProfile) (bytes : List ℕ) : Type 0 where
  pub packet : DataPacket
  pub datagram : IsDatagram (IsData profile) packet bytes

-- what of this is read: the words of the stamp are there and are one, and the packet is no longer than one can be
pub record IsDataBytes (bytes : List ℕ) : Type 0 where
  pub enough : 7 ≤ length (words_of bytes)
  pub most : length (words_of bytes) ≤ 16376
  pub fraction : fraction_of (slice_index (words_of bytes) 5) (slice_index (words_of bytes) 6) < 10 ^ 12

-- how long a data packet is: whole words, seven and a payload of one at least
pub record HasDataSize (bytes : List ℕ) : Type 0 where
  pub whole : length bytes ≡ 4 * length (words_of bytes)
  pub least : 8 ≤ length (words_of bytes)
  pub most : length (words_of bytes) ≤ 16376

-- of each arrival at the windows
pub record IsContextEntry (arrived : Entry ContextRec) : Type 0 where
  pub stamp : arrived.stamp ≡ stamp_in arrived.item.prologue.stamp
  pub grammar : IsInGrammar arrived.item

pub record IsDataEntry (arrived : Entry Buffer) : Type 0 where
  pub stamp : arrived.stamp ≡ data_stamp arrived.item.bytes
  pub front : IsDataBytes arrived.item.bytes

-- a context in the grammar, above the horizon
pub record IsLater (line : TimelineState) (rec : ContextRec) : Type 0 where
  pub grammar : IsInGrammar rec
  pub above : IfSome (horizon_of line) (λ horizon. moment_of horizon < moment_of (stamp_in rec.prologue.stamp))
