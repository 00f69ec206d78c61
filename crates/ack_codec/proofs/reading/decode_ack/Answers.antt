-- The front and the content behind it decide, and words are one acknowledgement at most.
use Rattle.std.proofs.lemmas.Result.{IfOk-weaker, IfErr-weaker}
use Rattle.std.proofs.Common.{arith}
use Rattle.vrt_words.specs.Begins.{IsDatagram, IsRefused}
use Rattle.ack_codec.specs.Ack.{IsAck}
use Rattle.ack_codec.proofs.AckLaws.{right_ack, refused_in_its_front, refused_in_its_content, one_decoded}
use Rattle.ack_codec.proofs.reading.decode_ack.Goals as goal

pub returns-in-Ok-clause-found : goal.returns-in-Ok-clause-found
returns-in-Ok-clause-found c =
    let found = c.in-Ok.ensures.found in
    IfOk-weaker c.read_content.result _ (λ ack. IsDatagram (IsAck c.args.profile) ack c.args.bytes.now)
    (λ ack h. right_ack c.args.profile c.in-Ok.front ack c.args.bytes.now found.1 h.same h.kind h.content h.whole)
    c.read_content.ensures.found

pub returns-in-Ok-clause-refused : goal.returns-in-Ok-clause-refused
returns-in-Ok-clause-refused c =
    let found = c.in-Ok.ensures.found in
    IfErr-weaker c.read_content.result _ (λ place. IsRefused (IsAck c.args.profile) c.args.bytes.now place.word)
    (λ place h. refused_in_its_content c.args.profile c.in-Ok.front c.args.bytes.now place.word (λ i. omega (arith, c.type_inv.bytes i)) found.0 found.1 h)
    c.read_content.ensures.refused

pub returns-in-Ok-clause-only : goal.returns-in-Ok-clause-only
returns-in-Ok-clause-only c =
    one_decoded c.args.profile c.args.bytes.now c.read_content.result (returns-in-Ok-clause-found c) (returns-in-Ok-clause-refused c)

pub returns-in-Err-clause-refused : goal.returns-in-Err-clause-refused
returns-in-Err-clause-refused c =
    refused_in_its_front c.args.profile c.args.bytes.now c.in-Err.place.word c.in-Err.ensures.refused (λ front n h. absurd (cc (c.in-Err.ensures.only front n h)))

pub returns-in-Err-clause-only : goal.returns-in-Err-clause-only
returns-in-Err-clause-only c = λ ack d. absurd ((returns-in-Err-clause-refused c).no_packet ack d)
