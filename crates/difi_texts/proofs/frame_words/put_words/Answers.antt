-- The word stands in front of the digits.
use Rattle.std.proofs.Common.{◌-◌, ◌+◌, ◌++◌, drop, refl, ap, ◌∙◌, codes, arith}
use Rattle.difi_texts.proofs.PutWords.{words_put}
use Rattle.difi_texts.proofs.frame_words.put_words.Goals as goal
use borrow.Rule.Slice.PartMut.{put_mid}

pub returns-clause-text : goal.returns-clause-text
returns-clause-text c =
    let words = c.args.words.now in
    let digits = c.fill_decimal-start.new.into in
    let start = c.fill_decimal-start.result in
    let k = start + 6 - start in
    ap (λ d. drop start (put_mid start k (put_mid 6 20 words d) c.copy_from_slice-2.new.self)) c.copy_from_slice.ensures.after
    ∙ ap (λ w. drop start (put_mid start k (put_mid 6 20 words digits) w)) c.copy_from_slice-2.ensures.after
    ∙ words_put words digits (codes "frame ") start k c.told-words c.fill_decimal-start.array_long refl c.fill_decimal-start.ensures.within (omega arith)
    ∙ ap (λ d. codes "frame " ++ d) c.fill_decimal-start.ensures.text
