-- The words of the identity are there.
use Rattle.std.proofs.Common.{true, ap, arith}
use Rattle.vrt_words.proofs.WordLaws.{length-words_of}
use Rattle.cam_field.specs.Ident.{ident_size}
use Rattle.command_prologue.proofs.identity.identity_at.Goals as goal

pub read_words-requires : goal.read_words-requires
read_words-requires c =
    let size = ap (λ named. ident_size named c.args.uuid) c.if-not-named.false in
    let form = ap (λ uuid. ident_size true uuid) c.if-uuid.true in
    omega (arith, size, form, c.requires.there, length-words_of c.args.bytes.now)

pub read_words-requires-else-uuid : goal.read_words-requires-else-uuid
read_words-requires-else-uuid c =
    let size = ap (λ named. ident_size named c.args.uuid) c.if-not-named.false in
    let form = ap (λ uuid. ident_size true uuid) c.if-uuid.false in
    omega (arith, size, form, c.requires.there, length-words_of c.args.bytes.now)
