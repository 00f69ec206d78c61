use Rattle.std.proofs.Common.{◌≡◌, ◌≤◌, ◌+◌, ℕ, List, ◌++◌, length, take, drop, sym, ap, ◌∙◌, arith}
use Rattle.std.proofs.Math.Seq.{take-append_seam, drop-append_seam}
use Rattle.std.proofs.lemmas.List.{length-take-le}
use Rattle.vrt_words.specs.Words.{words_of}
use Rattle.vrt_words.proofs.WordLaws.{length-words_of}
use Rattle.vrt_fields.specs.FieldSet.{FieldValues, mask_of, words_of_set, width_of_mask}
use Rattle.vrt_fields.proofs.FieldSetLaws.{width_is_of_fields}
use Rattle.vrt_fields.proofs.round_trip.written_and_read.Goals as goal

-- words put at a place are found there
found : (at : ℕ) (old new words rest : List ℕ) → at ≤ length old → new ≡ take at old ++ (words ++ rest) → words ≡ take (length words) (drop at new)
found at old new words rest h e =
    let behind : drop at new ≡ words ++ rest =
    ap (λ l. drop at l) e ∙ ap (λ n. drop n (take at old ++ (words ++ rest))) (sym (length-take-le at old h)) ∙ drop-append_seam (take at old) (words ++ rest) in
    sym (take-append_seam words rest) ∙ ap (λ l. take (length words) l) (sym behind)

wide : (set : FieldValues) (cif0 : ℕ) → cif0 ≡ mask_of set → length (words_of_set set) ≡ width_of_mask (mask_of set) → width_of_mask cif0 ≡ length (words_of_set set)
wide set cif0 e f = ap width_of_mask e ∙ sym f

pub read-requires-clause-there : goal.read-requires-clause-there
read-requires-clause-there c =
    omega (arith, wide c.args.set.now c.cif0.result c.cif0.ensures.number (sym (width_is_of_fields c.args.set.now c.cif0.ensures.set)))

pub returns : goal.returns
returns c =
    let width = wide c.args.set.now c.cif0.result c.cif0.ensures.number (sym (width_is_of_fields c.args.set.now c.cif0.ensures.set)) in
    let room = length-words_of c.args.into.now in
    let words = found c.args.at (words_of c.args.into.now) (words_of c.write.new.into) (words_of_set c.args.set.now)
    (drop (c.args.at + c.write.result) (words_of c.args.into.now)) (omega arith) c.write.ensures.words in
    c.read.ensures.only c.args.set.now c.cif0.ensures.set (sym c.cif0.ensures.number)
    (words ∙ ap (λ n. take n (drop c.args.at (words_of c.write.new.into))) (sym width))
