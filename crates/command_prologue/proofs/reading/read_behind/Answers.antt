-- What stands behind the prologue.
use Rattle.std.proofs.Common.{◌≡◌, ◌+◌, ◌≤◌, length, take, drop, get_or, sym, ap, ◌∙◌, subst, length-drop, add-zero, arith}
use Rattle.std.proofs.lemmas.List.{get_or-drop, drop-drop}
use Rattle.std.proofs.lemmas.Result.{IfOk-weaker, IfErr-weaker}
use Rattle.vrt_words.specs.Words.{words_of}
use Rattle.vrt_header.specs.Header.{prologue_words}
use Rattle.vrt_header.specs.declared.prologue.Prologue.{Prologue}
use Rattle.cam_field.specs.declared.cam.Cam.{Cam}
use Rattle.command_prologue.specs.CommandPrologue.{IsMode, IsBehind, identity_words, command_words}
use Rattle.command_prologue.specs.Steps.{AreNamed}
use Rattle.command_prologue.proofs.CommandPrologueLaws.{cut_at_end, cut_at_mode, cut_short, behind_read}
use Rattle.command_prologue.specs.declared.prologue.CommandPrologue.{CommandPrologue}
use Rattle.command_prologue.proofs.reading.read_behind.Goals as goal

pub returns-in-Err-clause-refused : goal.returns-in-Err-clause-refused
returns-in-Err-clause-refused c =
    let n = prologue_words c.args.prologue.header.timed in
    let words = words_of c.args.bytes.now in
    let missing = c.in-Err.ensures.missing in
    let size = c.prologue_size-at.ensures.size in
    (0, omega (arith, missing, size, c.requires), cut_at_end c.args.role c.args.prologue (drop n words) (omega (arith, missing, size, length-drop n words)))

pub returns-in_default-clause-refused : goal.returns-in_default-clause-refused
returns-in_default-clause-refused c =
    let n = prologue_words c.args.prologue.header.timed in
    let words = words_of c.args.bytes.now in
    let size = c.prologue_size-at.ensures.size in
    let word = c.in-Ok.ensures.word in
    let first : c.in-Ok.word ≡ get_or (drop n words) 0 0 =
    word.1 ∙ ap (λ i. get_or words i 0) (size ∙ sym (add-zero n)) ∙ sym (get_or-drop n words 0 0) in (
      0,
      omega (arith, size),
      cut_at_mode c.args.role c.args.prologue (drop n words) (omega (arith, word.0, size, length-drop n words))
          (λ cam mode. c.in_default.ensures.none cam (subst (IsMode c.args.role c.args.prologue cam) (sym first) mode)),
    )

pub returns-clause-found : goal.returns-clause-found
returns-clause-found c =
    let n = prologue_words c.args.prologue.header.timed in
    let words = words_of c.args.bytes.now in
    let role = c.args.role in
    let size = c.prologue_size-at.ensures.size in
    let word = c.in-Ok.ensures.word in
    let first : c.in-Ok.word ≡ get_or (drop n words) 0 0 =
    word.1 ∙ ap (λ i. get_or words i 0) (size ∙ sym (add-zero n)) ∙ sym (get_or-drop n words 0 0) in
    let mode : IsMode role c.args.prologue c.in-Some.cam (get_or (drop n words) 0 0) = subst (IsMode role c.args.prologue c.in-Some.cam) first c.in-Some.ensures.found in
    IfOk-weaker c.read_named.result _
    (λ front. (front.prologue ≡ c.args.prologue) × (command_words front ≤ length words) × IsBehind role front (take (2 + identity_words front.cam) (drop n words)))
    (λ (front : CommandPrologue) h.
    let same : 2 + identity_words c.in-Some.cam ≡ 2 + identity_words front.cam = ap (λ (cam : Cam). 2 + identity_words cam) (sym h.1) in
    let long : command_words front ≡ n + 2 + identity_words front.cam = ap (λ (p : Prologue). prologue_words p.header.timed + 2 + identity_words front.cam) h.0 in
    let named = subst (AreNamed front) (sym (drop-drop 1 n words)) h.3 in (
      h.0,
      omega (arith, h.2, same, long),
      behind_read role front (drop n words)
          (subst (λ (p : Prologue). IsMode role p front.cam (get_or (drop n words) 0 0)) (sym h.0) (subst (λ (cam : Cam). IsMode role c.args.prologue cam (get_or (drop n words) 0 0)) (sym h.1) mode))
          (omega (arith, h.2, same, length-drop n words)) named,
    ))
    c.read_named.ensures.found

pub returns-clause-refused : goal.returns-clause-refused
returns-clause-refused c =
    let n = prologue_words c.args.prologue.header.timed in
    let words = words_of c.args.bytes.now in
    let rest = length-drop n words in
    let role = c.args.role in
    let size = c.prologue_size-at.ensures.size in
    let word = c.in-Ok.ensures.word in
    let first : c.in-Ok.word ≡ get_or (drop n words) 0 0 =
    word.1 ∙ ap (λ i. get_or words i 0) (size ∙ sym (add-zero n)) ∙ sym (get_or-drop n words 0 0) in
    let mode : IsMode role c.args.prologue c.in-Some.cam (get_or (drop n words) 0 0) = subst (IsMode role c.args.prologue c.in-Some.cam) first c.in-Some.ensures.found in
    IfErr-weaker c.read_named.result _ _
    (λ place h. (
      length (drop n words),
      omega (arith, h.0, rest, c.requires),
      cut_short role c.args.prologue c.in-Some.cam (drop n words) (omega (arith, word.0, size, rest)) mode (omega (arith, h.1, rest, c.requires)),
    ))
    c.read_named.ensures.short
