-- The first word tells the kind.
use Rattle.std.proofs.Common.{take}
use Rattle.std.proofs.lemmas.Result.{IfOk-weaker, IfErr-weaker}
use Rattle.vrt_words.specs.Words.{words_of}
use Rattle.vrt_words.specs.Begins.{IsRefusedAt}
use Rattle.vrt_header.specs.Header.{prologue_words}
use Rattle.vrt_header.specs.Prologue.{IsPrologueOf}
use Rattle.vrt_header.proofs.KindLaws.{prologue_of_kind, refused_of_kind}
use Rattle.vrt_header.proofs.of_kind.read_prologue_of.Goals as goal

pub returns-clause-found : goal.returns-clause-found
returns-clause-found c =
    IfOk-weaker c.read_prologue.result _ (λ p. IsPrologueOf c.args.profile c.args.kind p (take (prologue_words p.header.timed) (words_of c.args.bytes.now)))
    (λ p h. prologue_of_kind c.args.profile c.args.kind p (words_of c.args.bytes.now) (prologue_words p.header.timed) (c.has_kind.ensures.0 c.if-not-has_kind.false).1 h)
    c.read_prologue.ensures.found

pub returns-clause-refused : goal.returns-clause-refused
returns-clause-refused c =
    IfErr-weaker c.read_prologue.result _ (λ place. IsRefusedAt (IsPrologueOf c.args.profile c.args.kind) (words_of c.args.bytes.now) place.word)
    (λ place h. refused_of_kind c.args.profile c.args.kind (words_of c.args.bytes.now) place.word (c.has_kind.ensures.0 c.if-not-has_kind.false).1 h)
    c.read_prologue.ensures.refused
