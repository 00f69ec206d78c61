use Rattle.std.proofs.Common.{◌≡◌, ◌-◌, ◌/◌, ℕ, length, ap, ◌∙◌, arith}
use Rattle.vrt_words.specs.Words.{words_of, bits}
use Rattle.vrt_words.proofs.WordLaws.{length-words_of}
use Rattle.sample_binder.specs.declared.sampling.Shape.{Shape}
use Rattle.sample_binder.proofs.front.shape_of.Goals as goal

pub overflow_cast-result : goal.overflow_cast-result
overflow_cast-result c = omega (arith, length-words_of c.args.bytes.now, c.requires.most)

pub overflow_sub-result : goal.overflow_sub-result
overflow_sub-result c = omega (arith, length-words_of c.args.bytes.now, c.requires.enough)

pub returns : goal.returns
returns c =
    let bytes = c.args.bytes.now in
    let size : length bytes / 4 - 7 ≡ length (words_of bytes) - 7 = omega (arith, length-words_of bytes) in
    let make : ℕ → ℕ → Shape = λ words pad. record { stamp = c.args.stamp; words = words; pad = pad } in
    ap (λ words. make words c.bits_of.result) size ∙ ap (make (length (words_of bytes) - 7)) (c.bits_of.ensures.field ∙ ap (λ w. bits w 27 5) c.word.ensures)
