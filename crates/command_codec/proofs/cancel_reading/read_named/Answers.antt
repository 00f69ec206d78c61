-- CIF0 is all that stands behind the prologue.
use Rattle.std.proofs.Common.{◌≡◌, suc, [], ◌∷◌, drop, get_or, ap, sym, ◌∙◌, subst, length-drop, arith}
use Rattle.std.proofs.lemmas.List.{nil_from_length}
use Rattle.std.proofs.Math.Seq.{drop-cons}
use Rattle.vrt_words.specs.Words.{words_of}
use Rattle.vrt_words.proofs.WordLaws.{length-words_of}
use Rattle.vrt_fields.specs.FieldSet.{IsFieldMask}
use Rattle.command_prologue.specs.CommandPrologue.{command_words}
use Rattle.command_codec.proofs.cancel_reading.read_named.Goals as goal

pub returns-in-Ok-check_size-clause-found : goal.returns-in-Ok-check_size-clause-found
returns-in-Ok-check_size-clause-found c =
    let words = words_of c.args.bytes.now in
    let m = command_words c.args.front.now in
    let size = c.in-Ok-check_size.ensures.right in
    let word = c.in-Ok.ensures.word in
    let first : get_or words m 0 ≡ c.packet_of.result.named =
    ap (λ i. get_or words i 0) (sym c.words-at.ensures.number) ∙ sym word.1 ∙ sym c.packet_of.ensures.named in
    let none : drop (suc m) words ≡ [] = nil_from_length (drop (suc m) words) (omega (arith, c.requires.size, size, length-words_of c.args.bytes.now, length-drop (suc m) words)) in (
      c.packet_of.ensures.front,
      size,
      subst IsFieldMask (sym c.packet_of.ensures.named) (c.is_field_mask.ensures.0 c.if-not-is_field_mask.false),
      drop-cons words m 0 (omega (arith, word.0, c.words-at.ensures.number)) ∙ ap (λ x. x ∷ drop (suc m) words) first ∙ ap (λ xs. c.packet_of.result.named ∷ xs) none,
    )
