-- The calls of a stream's binder that frames make.
use Rattle.std.specs.Prelude.{ℕ, ◌*◌, ◌==◌, if◌then◌else◌, List, [], ◌∷◌}
use Rattle.std.specs.List.{flat_map}
use Rattle.vrt_words.specs.Buffer.{Buffer}
use Rattle.difi_packet.specs.Packet.{PacketValue, DataValue, ContextValue}
use Rattle.replay_form.specs.declared.record_head.RecordHead.{RecordHead}
use Rattle.sample_binder.specs.Calls.{Call, ContextCall, DataCall}
use Rattle.difi_gateway.specs.Contents.{Content, Holds, Received}

-- the buffer of a data packet; all buffers have the room of the longest packet
abbrev pub buffer_of : RecordHead → List ℕ → Buffer
buffer_of head datagram = record { room = 4 * head.max_words; bytes = datagram }

abbrev pub packet_calls : RecordHead → ℕ → List ℕ → PacketValue → List Call
packet_calls head stream datagram (DataValue packet) =
    if packet.prologue.stream == stream then DataCall (buffer_of head datagram) ∷ [] else []
packet_calls head stream datagram (ContextValue rec) = if rec.prologue.stream == stream then ContextCall rec ∷ [] else []
packet_calls head stream datagram packet = []

abbrev pub content_calls : RecordHead → ℕ → List ℕ → Content → List Call
content_calls head stream datagram (Holds packet) = packet_calls head stream datagram packet
content_calls head stream datagram content = []

abbrev pub calls_by : RecordHead → ℕ → Received → List Call
calls_by head stream received = content_calls head stream received.frame.datagram received.content

-- each data packet and each context of the stream, in order
abbrev pub calls : RecordHead → ℕ → List Received → List Call
calls head stream received = flat_map (calls_by head stream) received
