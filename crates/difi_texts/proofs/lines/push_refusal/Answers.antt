-- A text behind a text behind the old one.
use Rattle.std.proofs.Common.{◌++◌, ap, ◌∙◌, codes}
use Rattle.std.specs.Fmt.{decimal}
use Rattle.difi_texts.proofs.Texts.{two_behind}
use Rattle.difi_texts.proofs.lines.push_refusal.Goals as goal

pub returns-clause-text : goal.returns-clause-text
returns-clause-text c =
    let said = two_behind c.args.out.now c.push.new.self c.push_decimal.new.self (codes " refused at word ") (decimal c.args.word) c.push.ensures
    (c.push_decimal.ensures.text ∙ ap (λ n. c.push.new.self ++ decimal n) c.from.ensures) in
    c.push-2.ensures ∙ ap (λ l. l ++ codes "\n") said
