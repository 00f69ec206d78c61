-- The prologue and what stands behind it decide, and the words have one in front.
use Rattle.std.proofs.Common.{◌≤◌, ℕ, length, take, sym, subst, arith}
use Rattle.std.proofs.lemmas.Result.{IfOk-weaker, IfErr-weaker}
use Rattle.vrt_words.specs.Words.{words_of}
use Rattle.vrt_words.proofs.WordLaws.{words_of-words}
use Rattle.vrt_words.specs.Begins.{IsRefusedAt}
use Rattle.vrt_header.specs.Header.{prologue_words}
use Rattle.vrt_header.specs.Prologue.{IsPrologueOf}
use Rattle.vrt_header.proofs.KindLaws.{none_in_front}
use Rattle.vrt_header.specs.declared.header.Kind.{Kind}
use Rattle.vrt_header.specs.declared.prologue.Prologue.{Prologue}
use Rattle.command_prologue.specs.CommandPrologue.{kind_of, IsCommandPrologue, command_words}
use Rattle.command_prologue.proofs.CommandPrologueLaws.{whole_front, prologue_inside, refused_behind_prologue, none_behind_prologue, refused_in_prologue, one_answer}
use Rattle.command_prologue.specs.declared.prologue.CommandPrologue.{CommandPrologue}
use Rattle.command_prologue.proofs.reading.read_command_prologue.Goals as goal

found : (c : goal.After-read_behind) → IsPrologueOf c.args.profile (kind_of c.args.role) c.in-Ok.prologue (take (prologue_words c.in-Ok.prologue.header.timed) (words_of c.args.bytes.now))
found c = subst (λ (k : Kind). IsPrologueOf c.args.profile k c.in-Ok.prologue (take (prologue_words c.in-Ok.prologue.header.timed) (words_of c.args.bytes.now))) c.role_kind.ensures c.in-Ok.ensures.found

none : (c : goal.In-Err) → (p : Prologue) (n : ℕ) → ¬ IsPrologueOf c.args.profile (kind_of c.args.role) p (take n (words_of c.args.bytes.now))
none c =
    let words = words_of c.args.bytes.now in
    none_in_front c.args.profile (kind_of c.args.role) words c.in-Err.place
    (λ p n h. c.in-Err.ensures.only p n (subst (λ (k : Kind). IsPrologueOf c.args.profile k p (take n words)) (sym c.role_kind.ensures) h))

refused : (c : goal.In-Err) → IsRefusedAt (IsPrologueOf c.args.profile (kind_of c.args.role)) (words_of c.args.bytes.now) c.in-Err.place.word
refused c = subst (λ (k : Kind). IsRefusedAt (IsPrologueOf c.args.profile k) (words_of c.args.bytes.now) c.in-Err.place.word) c.role_kind.ensures c.in-Err.ensures.refused

pub read_behind-requires : goal.read_behind-requires
read_behind-requires c =
    prologue_inside c.args.profile c.args.role c.in-Ok.prologue (words_of c.args.bytes.now)
    (subst (λ (k : Kind). IsPrologueOf c.args.profile k c.in-Ok.prologue (take (prologue_words c.in-Ok.prologue.header.timed) (words_of c.args.bytes.now))) c.role_kind.ensures c.in-Ok.ensures.found)

pub returns-in-Ok-clause-found : goal.returns-in-Ok-clause-found
returns-in-Ok-clause-found c =
    let words = words_of c.args.bytes.now in
    IfOk-weaker c.read_behind.result _
    (λ front. (command_words front ≤ length words) × IsCommandPrologue c.args.profile c.args.role front (take (command_words front) words))
    (λ (front : CommandPrologue) h. (h.1, whole_front c.args.profile c.args.role c.in-Ok.prologue front words (found c) h.0 h.1 h.2))
    c.read_behind.ensures.found

pub returns-in-Ok-clause-refused : goal.returns-in-Ok-clause-refused
returns-in-Ok-clause-refused c =
    let words = words_of c.args.bytes.now in
    let inside = prologue_inside c.args.profile c.args.role c.in-Ok.prologue words (found c) in
    IfErr-weaker c.read_behind.result _ (λ place. IsRefusedAt (IsCommandPrologue c.args.profile c.args.role) words place.word)
    (λ place h.
    subst (IsRefusedAt (IsCommandPrologue c.args.profile c.args.role) words) (sym h.1)
    (refused_behind_prologue c.args.profile c.args.role c.in-Ok.prologue words h.0 (words_of-words c.args.bytes.now (λ i. omega (arith, c.type_inv.bytes i))) inside (found c) h.2))
    c.read_behind.ensures.refused

pub returns-in-Ok-clause-only : goal.returns-in-Ok-clause-only
returns-in-Ok-clause-only c =
    let words = words_of c.args.bytes.now in
    let inside = prologue_inside c.args.profile c.args.role c.in-Ok.prologue words (found c) in
    one_answer c.args.profile c.args.role words c.read_behind.result
    (IfOk-weaker c.read_behind.result _ (λ front. (n : ℕ) × IsCommandPrologue c.args.profile c.args.role front (take n words))
    (λ (front : CommandPrologue) h. (command_words front, h.1)) (returns-in-Ok-clause-found c))
    (IfErr-weaker c.read_behind.result _ (λ place. (v : CommandPrologue) (n : ℕ) → ¬ IsCommandPrologue c.args.profile c.args.role v (take n words))
    (λ place h. none_behind_prologue c.args.profile c.args.role c.in-Ok.prologue words h.0 inside (found c) h.2)
    c.read_behind.ensures.refused)

pub returns-in-Err-clause-refused : goal.returns-in-Err-clause-refused
returns-in-Err-clause-refused c =
    (refused_in_prologue c.args.profile c.args.role (words_of c.args.bytes.now) c.in-Err.place.word (refused c) (none c)).0

pub returns-in-Err-clause-only : goal.returns-in-Err-clause-only
returns-in-Err-clause-only c = λ front n h.
    absurd ((refused_in_prologue c.args.profile c.args.role (words_of c.args.bytes.now) c.in-Err.place.word (refused c) (none c)).1 front n h)
