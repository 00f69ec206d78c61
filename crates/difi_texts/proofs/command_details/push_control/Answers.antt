-- The front is that of the command.
use Rattle.std.proofs.Common.{◌++◌, ◌∙◌, ap, codes}
use Rattle.command_codec.specs.Control.{front_of}
use Rattle.command_prologue.specs.declared.prologue.CommandPrologue.{CommandPrologue}
use Rattle.difi_texts.specs.CommandDetails.{word_line, front_lines, content}
use Rattle.difi_texts.proofs.Texts.{three_behind}
use Rattle.difi_texts.proofs.command_details.push_control.Goals as goal

pub returns-clause-text : goal.returns-clause-text
returns-clause-text c =
    let packet = c.args.packet.now in
    three_behind c.args.out.now c.push_front.new.out c.push_word.new.out _
    (front_lines (front_of packet)) (word_line (codes "fields ") packet.asked) (content packet.fields)
    (c.push_front.ensures.text ∙ ap (λ (f : CommandPrologue). c.args.out.now ++ front_lines f) c.front.ensures)
    c.push_word.ensures.text
    c.push_content.ensures.text
