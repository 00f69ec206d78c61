-- What the kind's encoder writes is the packet.
use Rattle.std.proofs.Common.{take}
use Rattle.vrt_words.specs.Begins.{IsDatagram}
use Rattle.difi_packet.specs.Packet.{ContextValue, IsPacket}
use Rattle.difi_packet.proofs.writing.encode.Goals as goal

pub returns-in-Context-clause-packet : goal.returns-in-Context-clause-packet
returns-in-Context-clause-packet c =
    let d = c.encode-in-Context.ensures.packet in
    let p : IsDatagram (IsPacket c.args.profile) (ContextValue c.in-Context.rec) (take 108 c.encode-in-Context.new.into) = record { whole = d.whole; packet = d.packet } in
    rw c.in-Context.is p

-- the words that spell the packet are those of the command, or of the cancellation
pub encode_control-requires-clause-spelled : goal.encode_control-requires-clause-spelled
encode_control-requires-clause-spelled c =
    let s = c.requires.spelled in
    let told = rw c.in-Control.is at s.2 in (s.0, record { are_words = s.1; told = told })

pub encode_cancel-requires-clause-spelled : goal.encode_cancel-requires-clause-spelled
encode_cancel-requires-clause-spelled c =
    let s = c.requires.spelled in
    let told = rw c.in-Cancel.is at s.2 in (s.0, record { are_words = s.1; told = told })

pub returns-in-Context-clause-again : goal.returns-in-Context-clause-again
returns-in-Context-clause-again c = λ bytes fits d.
    let p = rw c.in-Context.is at d in
    c.encode-in-Context.ensures.again bytes fits (record { whole = p.whole; packet = p.packet })

pub returns-in-Version-clause-again : goal.returns-in-Version-clause-again
returns-in-Version-clause-again c = λ bytes fits d.
    let p = rw c.in-Version.is at d in
    c.encode-in-Version.ensures.again bytes fits (record { whole = p.whole; packet = p.packet })

pub returns-in-Ack-clause-again : goal.returns-in-Ack-clause-again
returns-in-Ack-clause-again c = λ bytes fits d.
    let p = rw c.in-Ack.is at d in
    c.encode_ack.ensures.again bytes fits (record { whole = p.whole; packet = p.packet })

pub returns-in-Data-clause-again : goal.returns-in-Data-clause-again
returns-in-Data-clause-again c = λ bytes fits d.
    let p = rw c.in-Data.is at d in
    c.encode.ensures.again bytes fits (record { whole = p.whole; packet = p.packet })

pub returns-in-Control-clause-again : goal.returns-in-Control-clause-again
returns-in-Control-clause-again c = λ bytes fits d.
    let p = rw c.in-Control.is at d in
    c.encode_control.ensures.again bytes fits (record { whole = p.whole; packet = p.packet })

pub returns-in-Cancel-clause-again : goal.returns-in-Cancel-clause-again
returns-in-Cancel-clause-again c = λ bytes fits d.
    let p = rw c.in-Cancel.is at d in
    c.encode_cancel.ensures.again bytes fits (record { whole = p.whole; packet = p.packet })
