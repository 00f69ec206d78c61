-- The parts are written one after another.
use Rattle.std.proofs.Common.{◌≡◌, ◌*◌, ◌≤◌, ◌++◌, length, take, drop, ap, ◌∙◌, length-append, append_assoc, arith}
use Rattle.vrt_words.specs.Words.{words_of}
use Rattle.vrt_words.proofs.WordLaws.{length-words_of, same_later}
use Rattle.ack_codec.specs.Ack.{mask_words, response_words}
use Rattle.ack_codec.proofs.SpellingLaws.{both_put}
use Rattle.ack_codec.proofs.writing.put_report.Goals as goal

pub returns-clause-words : goal.returns-clause-words
returns-clause-words c =
    let at = c.args.at in
    let i = c.put_mask-middle.result in
    let j = c.put_mask-masks.result in
    let k = c.put_listed-warned.result in
    let l = c.put_listed.result in
    let old = words_of c.args.into.now in
    let first = words_of c.put_mask-middle.new.into in
    let second = words_of c.put_mask-masks.new.into in
    let third = words_of c.put_listed-warned.new.into in
    let fourth = words_of c.put_listed.new.into in
    let m = mask_words c.args.warnings.now in
    let n = mask_words c.args.errors.now in
    let x = response_words c.args.warnings.now in
    let y = response_words c.args.errors.now in
    let there : at ≤ length old = omega (arith, length-words_of c.args.into.now, c.requires) in
    let e1 = c.put_mask-middle.ensures in
    let e2 = c.put_mask-masks.ensures in
    let e3 = c.put_listed-warned.ensures in
    let e4 = c.put_listed.ensures in
    let two : second ≡ take at old ++ ((m ++ n) ++ drop j old) =
    both_put at i j old first second m n there e1.end (omega (arith, e2.end)) e1.words e2.words in
    let three : third ≡ take at old ++ (((m ++ n) ++ x) ++ drop k old) =
    both_put at j k old second third (m ++ n) x there (omega (arith, e1.end, e2.end, length-append m n)) (omega (arith, e3.end)) two e3.words in
    let four : fourth ≡ take at old ++ ((((m ++ n) ++ x) ++ y) ++ drop l old) =
    both_put at k l old third fourth ((m ++ n) ++ x) y there (omega (arith, e1.end, e2.end, e3.end, length-append m n, length-append (m ++ n) x)) (omega (arith, e4.end)) three e4.words in
    four ∙ ap (λ xs. take at old ++ (xs ++ drop l old)) (append_assoc (m ++ n) x y ∙ append_assoc m n (x ++ y))

pub returns-clause-behind : goal.returns-clause-behind
returns-clause-behind c =
    let n = 4 * c.put_listed.result in
    let e2 = c.put_mask-masks.ensures.end in
    let e3 = c.put_listed-warned.ensures.end in
    let e4 = c.put_listed.ensures.end in
    c.put_listed.ensures.behind
    ∙ same_later (4 * c.put_listed-warned.result) n c.put_listed-warned.new.into c.put_mask-masks.new.into (omega arith) c.put_listed-warned.ensures.behind
    ∙ same_later (4 * c.put_mask-masks.result) n c.put_mask-masks.new.into c.put_mask-middle.new.into (omega arith) c.put_mask-masks.ensures.behind
    ∙ same_later (4 * c.put_mask-middle.result) n c.put_mask-middle.new.into c.args.into.now (omega arith) c.put_mask-middle.ensures.behind
