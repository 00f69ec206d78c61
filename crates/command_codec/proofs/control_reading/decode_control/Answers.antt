-- What stands behind the prologue decides, and the words are one command at most.
use Rattle.std.proofs.Common.{◌*◌, take, drop, sym, ap, ◌∙◌, subst, arith}
use Rattle.std.proofs.lemmas.Result.{IfOk-weaker, IfErr-weaker}
use Rattle.vrt_words.specs.Words.{words_of}
use Rattle.vrt_words.specs.Begins.{IsDatagram, IsRefused}
use Rattle.cam_field.specs.declared.modes.Role.TheVariants as roles
use Rattle.command_prologue.specs.CommandPrologue.{IsCommandPrologue, command_words}
use Rattle.command_prologue.proofs.CommandPrologueLaws.{content_left}
use Rattle.command_prologue.specs.declared.prologue.CommandPrologue.{CommandPrologue}
use Rattle.command_codec.specs.declared.control.Control.{Control}
use Rattle.command_codec.specs.Control.{IsContent, IsControl}
use Rattle.command_codec.proofs.ControlLaws.{by_first, right_control, one_answer}
use Rattle.command_codec.proofs.FirstWordLaws.{refused_by_cut, refused_in_prologue}
use Rattle.command_codec.specs.Steps.{IsAsked}
use Rattle.command_codec.proofs.control_reading.decode_control.Goals as goal

pub read_content-requires-clause-some : goal.read_content-requires-clause-some
read_content-requires-clause-some c =
    let left = content_left c.args.profile roles.Control c.in-Ok.front (take (command_words c.in-Ok.front) (words_of c.args.bytes.now)) c.in-Ok.ensures.found.1 in
    omega (arith, left.1.0, left.1.1)

pub returns-in-Ok-clause-found : goal.returns-in-Ok-clause-found
returns-in-Ok-clause-found c =
    let profile = c.args.profile in
    let bytes = c.args.bytes.now in
    let front = c.in-Ok.front in
    IfOk-weaker c.read_content.result _ (λ packet. IsDatagram (IsControl profile) packet bytes)
    (λ (packet : Control) h.
    right_control profile packet bytes (λ i. omega (arith, c.type_inv.bytes i))
    (subst (λ (f : CommandPrologue). IsCommandPrologue profile roles.Control f (take (command_words f) (words_of bytes))) (sym h.0) c.in-Ok.ensures.found.1)
    (h.1 ∙ ap (λ (f : CommandPrologue). 4 * f.prologue.header.size) (sym h.0))
    (subst (λ (f : CommandPrologue). IsContent packet (drop (command_words f) (words_of bytes))) (sym h.0) h.2))
    c.read_content.ensures.found

pub returns-in-Ok-clause-refused : goal.returns-in-Ok-clause-refused
returns-in-Ok-clause-refused c =
    let profile = c.args.profile in
    let bytes = c.args.bytes.now in
    let front = c.in-Ok.front in
    let left = content_left profile roles.Control front (take (command_words front) (words_of bytes)) c.in-Ok.ensures.found.1 in
    IfErr-weaker c.read_content.result _ (λ place. IsRefused (IsControl profile) bytes place.word)
    (λ place h. refused_by_cut profile roles.Control IsAsked (IsControl profile) (by_first profile) front bytes (λ i. omega (arith, c.type_inv.bytes i))
    c.in-Ok.ensures.found.0 c.in-Ok.ensures.found.1 place.word (omega (arith, left.1.0, left.1.1)) h)
    c.read_content.ensures.refused

pub returns-in-Ok-clause-only : goal.returns-in-Ok-clause-only
returns-in-Ok-clause-only c =
    one_answer c.args.profile c.args.bytes.now c.read_content.result (returns-in-Ok-clause-found c) (returns-in-Ok-clause-refused c)

pub returns-in-Err-clause-refused : goal.returns-in-Err-clause-refused
returns-in-Err-clause-refused c =
    refused_in_prologue c.args.profile roles.Control IsAsked (IsControl c.args.profile) (by_first c.args.profile) c.args.bytes.now c.in-Err.place.word c.in-Err.ensures.refused
    (λ front n h. absurd (cc (c.in-Err.ensures.only front n h)))

pub returns-in-Err-clause-only : goal.returns-in-Err-clause-only
returns-in-Err-clause-only c = λ packet d. absurd ((returns-in-Err-clause-refused c).no_packet packet d)
