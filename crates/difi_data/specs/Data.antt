-- Data packets, one line for each part of their words.
use Rattle.std.specs.Prelude.{◌≡◌, ℕ, ◌*◌, List, length, take, drop}
use Rattle.vrt_words.specs.Words.{words_of, AreBytes}
use Rattle.vrt_header.specs.Profile.{PacketProfile}
use Rattle.vrt_header.specs.Prologue.{IsPrologueOf}
use Rattle.vrt_header.specs.declared.header.Kind.TheVariants.{Data}
use Rattle.vrt_header.specs.declared.prologue.Prologue.{Prologue}
use Rattle.difi_data.specs.declared.packet.DataRec.{DataRec}

-- a data packet: its prologue, and the bytes of its payload
pub record DataPacket : Type 0 where
  pub prologue : Prologue
  pub payload : List ℕ

-- the packet that a value of the program stands for, wherever its payload lies
abbrev pub packet_of : DataRec → DataPacket
packet_of rec = record { prologue = rec.prologue; payload = rec.payload.now }

-- these words, and no others, are a data packet; those behind the prologue are free
pub record IsData (profile : PacketProfile) (packet : DataPacket) (words : List ℕ) : Type 0 where
  pub prologue : IsPrologueOf profile Data packet.prologue (take 7 words)
  -- the size counts all the words
  pub size : packet.prologue.header.size ≡ length words
  -- the payload is whole words of bytes
  pub octets : AreBytes packet.payload
  pub whole : length packet.payload ≡ 4 * length (words_of packet.payload)
  pub payload : words_of packet.payload ≡ drop 7 words
