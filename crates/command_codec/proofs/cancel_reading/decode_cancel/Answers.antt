-- What stands behind the prologue decides, and the words are one cancellation at most.
use Rattle.std.proofs.Common.{◌≡◌, ◌*◌, [], ◌∷◌, take, drop, sym, ap, ◌∙◌, subst, arith}
use Rattle.std.proofs.lemmas.Result.{IfOk-weaker, IfErr-weaker}
use Rattle.vrt_words.specs.Words.{words_of}
use Rattle.vrt_words.specs.Begins.{IsDatagram, IsRefused}
use Rattle.cam_field.specs.declared.modes.Role.TheVariants as roles
use Rattle.command_prologue.specs.CommandPrologue.{IsCommandPrologue, command_words}
use Rattle.command_prologue.proofs.CommandPrologueLaws.{content_left}
use Rattle.command_prologue.specs.declared.prologue.CommandPrologue.{CommandPrologue}
use Rattle.command_codec.specs.declared.cancel.Cancel.{Cancel}
use Rattle.command_codec.specs.Cancel.{IsCancel}
use Rattle.command_codec.specs.Steps.{IsNamed}
use Rattle.command_codec.proofs.CancelLaws.{by_first, right_cancel, one_answer}
use Rattle.command_codec.proofs.FirstWordLaws.{refused_by_cut, refused_in_prologue}
use Rattle.command_codec.proofs.cancel_reading.decode_cancel.Goals as goal

pub read_named-requires-clause-size : goal.read_named-requires-clause-size
read_named-requires-clause-size c =
    let left = content_left c.args.profile roles.Cancel c.in-Ok.front (take (command_words c.in-Ok.front) (words_of c.args.bytes.now)) c.in-Ok.ensures.found.1 in
    omega (arith, left.1.0, left.1.1)

pub returns-in-Ok-clause-found : goal.returns-in-Ok-clause-found
returns-in-Ok-clause-found c =
    let profile = c.args.profile in
    let bytes = c.args.bytes.now in
    let front = c.in-Ok.front in
    IfOk-weaker c.read_named.result _ (λ packet. IsDatagram (IsCancel profile) packet bytes)
    (λ (packet : Cancel) h.
    right_cancel profile packet bytes (λ i. omega (arith, c.type_inv.bytes i))
    (subst (λ (f : CommandPrologue). IsCommandPrologue profile roles.Cancel f (take (command_words f) (words_of bytes))) (sym h.0) c.in-Ok.ensures.found.1)
    (h.1 ∙ ap (λ (f : CommandPrologue). 4 * f.prologue.header.size) (sym h.0))
    (h.2, subst (λ (f : CommandPrologue). drop (command_words f) (words_of bytes) ≡ packet.named ∷ []) (sym h.0) h.3))
    c.read_named.ensures.found

pub returns-in-Ok-clause-refused : goal.returns-in-Ok-clause-refused
returns-in-Ok-clause-refused c =
    let profile = c.args.profile in
    let bytes = c.args.bytes.now in
    let front = c.in-Ok.front in
    let left = content_left profile roles.Cancel front (take (command_words front) (words_of bytes)) c.in-Ok.ensures.found.1 in
    IfErr-weaker c.read_named.result _ (λ place. IsRefused (IsCancel profile) bytes place.word)
    (λ place h. refused_by_cut profile roles.Cancel IsNamed (IsCancel profile) (by_first profile) front bytes (λ i. omega (arith, c.type_inv.bytes i))
    c.in-Ok.ensures.found.0 c.in-Ok.ensures.found.1 place.word (omega (arith, left.1.0, left.1.1)) h)
    c.read_named.ensures.refused

pub returns-in-Ok-clause-only : goal.returns-in-Ok-clause-only
returns-in-Ok-clause-only c =
    one_answer c.args.profile c.args.bytes.now c.read_named.result (returns-in-Ok-clause-found c) (returns-in-Ok-clause-refused c)

pub returns-in-Err-clause-refused : goal.returns-in-Err-clause-refused
returns-in-Err-clause-refused c =
    refused_in_prologue c.args.profile roles.Cancel IsNamed (IsCancel c.args.profile) (by_first c.args.profile) c.args.bytes.now c.in-Err.place.word c.in-Err.ensures.refused
    (λ front n h. absurd (cc (c.in-Err.ensures.only front n h)))

pub returns-in-Err-clause-only : goal.returns-in-Err-clause-only
returns-in-Err-clause-only c = λ packet d. absurd ((returns-in-Err-clause-refused c).no_packet packet d)
