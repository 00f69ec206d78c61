-- What stands behind the header decides, and the words spell one prologue at most.
use Rattle.std.proofs.Common.{subst, get_or}
use Rattle.vrt_words.specs.Words.{words_of}
use Rattle.std.proofs.lemmas.Result.{IfErr-weaker}
use Rattle.vrt_words.specs.Begins.{IsRefusedAt}
use Rattle.vrt_header.specs.Prologue.{IsPrologue}
use Rattle.vrt_header.specs.Steps.{IsWrongAt}
use Rattle.vrt_header.specs.Header.{IsHeader}
use Rattle.vrt_header.proofs.PrologueLaws.{one_answer, wrong_refused}
use Rattle.vrt_header.proofs.prologue.read_prologue.Goals as goal

pub returns-clause-only : goal.returns-clause-only
returns-clause-only c =
    let words = words_of c.args.bytes.now in
    let header : IsHeader c.args.profile c.in-Some.header (get_or words 0 0) =
    subst (IsHeader c.args.profile c.in-Some.header) c.in_ok-first.ensures.word.1 c.in-Some.ensures.found in
    one_answer c.args.profile c.in-Some.header words c.read_behind.result header c.read_behind.ensures.found c.read_behind.ensures.refused

pub returns-clause-refused : goal.returns-clause-refused
returns-clause-refused c =
    let words = words_of c.args.bytes.now in
    let header : IsHeader c.args.profile c.in-Some.header (get_or words 0 0) =
    subst (IsHeader c.args.profile c.in-Some.header) c.in_ok-first.ensures.word.1 c.in-Some.ensures.found in
    IfErr-weaker c.read_behind.result (λ place. IsWrongAt c.args.profile c.in-Some.header words place.word) (λ place. IsRefusedAt (IsPrologue c.args.profile) words place.word)
    (λ place wrong. wrong_refused c.args.profile c.in-Some.header words place.word c.in-Some.ensures.within header wrong) c.read_behind.ensures.refused
