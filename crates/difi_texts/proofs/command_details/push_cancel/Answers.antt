-- The front is that of the cancellation.
use Rattle.std.proofs.Common.{◌++◌, ◌∙◌, ap, append_assoc, codes}
use Rattle.command_codec.specs.Cancel.{front_of}
use Rattle.command_prologue.specs.declared.prologue.CommandPrologue.{CommandPrologue}
use Rattle.difi_texts.specs.CommandDetails.{word_line, front_lines}
use Rattle.difi_texts.proofs.command_details.push_cancel.Goals as goal

pub returns-clause-text : goal.returns-clause-text
returns-clause-text c =
    let packet = c.args.packet.now in
    let named = word_line (codes "fields ") packet.named in
    c.push_word.ensures.text
    ∙ ap (λ l. l ++ named) (c.push_front.ensures.text ∙ ap (λ (f : CommandPrologue). c.args.out.now ++ front_lines f) c.front.ensures)
    ∙ append_assoc c.args.out.now (front_lines (front_of packet)) named
