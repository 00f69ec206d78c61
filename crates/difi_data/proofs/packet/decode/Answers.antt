-- The size in the prologue decides, and the words spell one packet at most.
use Rattle.std.proofs.Common.{◌≤◌, ◌*◌, length, take, refl, sym, ap, ◌∙◌, subst, arith}
use Rattle.std.proofs.lemmas.Result.{IfOk-weaker, IfErr-weaker}
use Rattle.vrt_words.specs.Words.{words_of}
use Rattle.vrt_words.specs.Begins.{IsDatagram, IsRefused}
use Rattle.vrt_header.specs.Prologue.{IsPrologueOf}
use Rattle.vrt_header.specs.declared.header.Kind.TheVariants.{Data}
use Rattle.vrt_header.specs.declared.prologue.Prologue.{Prologue}
use Rattle.vrt_header.proofs.KindLaws.{seven_in_front, none_in_front}
use Rattle.difi_data.specs.Data.{IsData, packet_of}
use Rattle.difi_data.proofs.DataLaws.{refused_in_front, refused_behind, right_data, one_answer}
use Rattle.difi_data.proofs.packet.decode.Goals as goal

front : (c : goal.After-read_behind) → IsPrologueOf c.args.profile Data c.in-Ok.prologue (take 7 (words_of c.args.bytes.now)) × (7 ≤ length (words_of c.args.bytes.now))
front c = seven_in_front c.args.profile Data c.in-Ok.prologue (words_of c.args.bytes.now) refl c.in-Ok.ensures.found

pub read_behind-requires : goal.read_behind-requires
read_behind-requires c = (seven_in_front c.args.profile Data c.in-Ok.prologue (words_of c.args.bytes.now) refl c.in-Ok.ensures.found).1

pub returns-in-Ok-clause-found : goal.returns-in-Ok-clause-found
returns-in-Ok-clause-found c =
    let profile = c.args.profile in
    let bytes = c.args.bytes.now in
    IfOk-weaker c.read_behind.result _ (λ rec. IsDatagram (IsData profile) (packet_of rec) bytes)
    (λ rec h. right_data profile (packet_of rec) bytes (λ i. omega (arith, c.type_inv.bytes i))
    (subst (λ (q : Prologue). IsPrologueOf profile Data q (take 7 (words_of bytes))) (sym h.0) (front c).0)
    h.1 (h.2 ∙ ap (λ (q : Prologue). 4 * q.header.size) (sym h.0))) c.read_behind.ensures.found

pub returns-in-Ok-clause-refused : goal.returns-in-Ok-clause-refused
returns-in-Ok-clause-refused c =
    IfErr-weaker c.read_behind.result _ (λ place. IsRefused (IsData c.args.profile) c.args.bytes.now place.word)
    (λ place h. refused_behind c.args.profile c.in-Ok.prologue c.args.bytes.now place.word (λ i. omega (arith, c.type_inv.bytes i)) (front c).0 (front c).1 h) c.read_behind.ensures.refused

pub returns-in-Ok-clause-only : goal.returns-in-Ok-clause-only
returns-in-Ok-clause-only c =
    one_answer c.args.profile c.args.bytes.now c.read_behind.result (returns-in-Ok-clause-found c) (returns-in-Ok-clause-refused c)

pub returns-in-Err-clause-refused : goal.returns-in-Err-clause-refused
returns-in-Err-clause-refused c =
    refused_in_front c.args.profile c.args.bytes.now c.in-Err.place.word c.in-Err.ensures.refused
    (none_in_front c.args.profile Data (words_of c.args.bytes.now) c.in-Err.place c.in-Err.ensures.only)

pub returns-in-Err-clause-only : goal.returns-in-Err-clause-only
returns-in-Err-clause-only c = λ packet d. absurd ((returns-in-Err-clause-refused c).no_packet packet d)
