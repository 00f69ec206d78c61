use Rattle.std.proofs.Common.{◌≡◌, ◌+◌, ◌*◌, ◌∷◌, ◌++◌, ◌∙◌, ap, length, take, append_assoc, arith}
use Rattle.vrt_words.specs.Words.{words_of}
use Rattle.vrt_time.specs.Time.{parts_of}
use Rattle.release_form.specs.Front.{reason_words, moment_words}
use Rattle.release_form.proofs.front.put_run.Goals as goal

pub returns-in-Bound-clause-behind : goal.returns-in-Bound-clause-behind
returns-in-Bound-clause-behind c = rw c.in-Bound.is (c.put_next.ensures.behind 132 (omega arith) ∙ c.put_span.ensures.behind 132 (omega arith))

pub returns-in-Uncertain-clause-behind : goal.returns-in-Uncertain-clause-behind
returns-in-Uncertain-clause-behind c =
    let why = ap length c.numbers_of.ensures in
    rw c.in-Uncertain.is (c.put_span-in-Uncertain.ensures.behind 64 (omega arith) ∙ c.put_next-in-Uncertain.ensures.behind 64 (omega (arith, why)))

pub returns-in-Raw-clause-behind : goal.returns-in-Raw-clause-behind
returns-in-Raw-clause-behind c =
    let why = ap length c.numbers_of-in-Raw.ensures in
    let stamp = ap length c.parts.ensures.words in
    rw c.in-Raw.is
    (c.put_next-in-Raw-3.ensures.behind 44 (omega arith) ∙ c.put_next-in-Raw-2.ensures.behind 44 (omega (arith, stamp))
    ∙ c.put_next-in-Raw.ensures.behind 44 (omega (arith, why)))

pub returns-in-Uncertain-clause-words : goal.returns-in-Uncertain-clause-words
returns-in-Uncertain-clause-words c =
    let a = c.in-Uncertain in
    let why = c.numbers_of.ensures in
    let front = words_of (take 20 c.args.into.now) in
    let rest = parts_of a.stamp ++ (a.first ∷ a.number ∷ moment_words a.at) in
    let size : 28 ≡ 4 * (5 + length c.numbers_of.result) = omega (arith, ap length why) in
    let first : words_of (take 28 c.put_next-in-Uncertain.new.into) ≡ front ++ reason_words a.reason =
    ap (λ n. words_of (take n c.put_next-in-Uncertain.new.into)) size ∙ c.put_next-in-Uncertain.ensures.words ∙ ap (λ xs. front ++ xs) why in
    rw c.in-Uncertain.is
    (c.put_span-in-Uncertain.ensures.words ∙ ap (λ xs. xs ++ rest) first ∙ append_assoc front (reason_words a.reason) rest)
