use Rattle.std.proofs.Common.{◌++◌, ◌∙◌, ap, codes}
use Rattle.vrt_fields.specs.FieldSet.{mask_of}
use Rattle.ack_codec.specs.Ack.{front_of_state}
use Rattle.difi_texts.specs.CommandDetails.{word_line, front_lines, set_lines}
use Rattle.difi_texts.proofs.Texts.{three_behind}
use Rattle.difi_texts.proofs.command_details.push_state.Goals as goal

pub returns-clause-text : goal.returns-clause-text
returns-clause-text c =
    let state = c.args.state.now in
    three_behind c.args.out.now c.push_front.new.out c.push_word.new.out _
    (front_lines (front_of_state state)) (word_line (codes "fields ") (mask_of state.fields)) (set_lines state.fields)
    c.push_front.ensures.text
    (c.push_word.ensures.text ∙ ap (λ word. c.push_front.new.out ++ word_line (codes "fields ") word) c.cif0.ensures.number)
    c.push_set.ensures.text
