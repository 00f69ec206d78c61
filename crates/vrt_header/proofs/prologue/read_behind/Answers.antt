-- The words that are right make the prologue, and the stamp's place is that of the prologue.
use Rattle.std.proofs.Common.{◌∙◌, ap, subst, sym, refl, get_or}
use Rattle.std.proofs.lemmas.Result.{err_from_is_err_and}
use Rattle.vrt_words.specs.Words.{words_of, bits}
use Rattle.vrt_header.specs.Prologue.{IsClassWord, IsClass}
use Rattle.vrt_header.proofs.PrologueLaws.{front_prologue, unstamped_wrong}
use Rattle.vrt_header.specs.declared.prologue.Prologue.{Prologue}
use Rattle.vrt_header.proofs.prologue.read_behind.Goals as goal

pub returns-in_err-stamp-clause-refused : goal.returns-in_err-stamp-clause-refused
returns-in_err-stamp-clause-refused c =
    let words = words_of c.args.bytes.now in
    let p = err_from_is_err_and c.from_residual-in_err-stamp.result c.from_residual-in_err-stamp.ensures.1 in
    let class_word : IsClassWord c.args.profile c.args.header.kind (get_or words 2 0) =
    subst (IsClassWord c.args.profile c.args.header.kind) c.in_ok-word_or_place.ensures.word.1 (c.in-Some.ensures.right.0 refl) in
    let class : IsClass c.args.header.kind (bits (get_or words 3 0) 16 16) (bits (get_or words 3 0) 0 16) =
    subst (λ w. IsClass c.args.header.kind (bits w 16 16) (bits w 0 16)) c.in_ok-word_or_place-2.ensures.word.1 (c.in-Some-class_of.ensures.right.0 refl) in
    rw (p.1, p.2) (unstamped_wrong c.args.profile c.args.header words _ c.in_err-stamp.ensures.refused.0 class_word class c.in_err-stamp.ensures.refused.1)

pub returns-clause-found : goal.returns-clause-found
returns-clause-found c =
    let words = words_of c.args.bytes.now in
    let kind = c.args.header.kind in
    let w2 = c.in_ok-word_or_place.ensures.word.1 in
    let w3 = c.in_ok-word_or_place-2.ensures.word.1 in
    let codes = c.in-Some-class_of.ensures.codes in
    let class_word : IsClassWord c.args.profile kind (get_or words 2 0) = subst (IsClassWord c.args.profile kind) w2 (c.in-Some.ensures.right.0 refl) in
    let class = subst (λ n. IsClass kind n c.in-Some-class_of.packet) (sym codes.0)
    (subst (λ n. IsClass kind (bits c.in_ok-word_or_place-2.field-0 16 16) n) (sym codes.1) (c.in-Some-class_of.ensures.right.0 refl)) in
    let prologue : Prologue = record {
      header = c.args.header;
      stream = c.in_ok-stream.stream;
      pad = c.in-Some.pad;
      information = c.in-Some-class_of.information;
      packet = c.in-Some-class_of.packet;
      stamp = c.in_ok-stamp.stamp;
    } in (
      refl,
      front_prologue c.args.profile prologue words c.in_ok-stamp.ensures.found.0 c.requires.header c.in_ok-stream.ensures.word.1 class_word
          (c.in-Some.ensures.pad ∙ ap (λ w. bits w 27 5) w2) class (codes.0 ∙ ap (λ w. bits w 16 16) w3) (codes.1 ∙ ap (λ w. bits w 0 16) w3) c.in_ok-stamp.ensures.found.1,
    )
