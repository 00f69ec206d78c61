use Rattle.std.proofs.Common.{◌*◌, ◌∙◌, ap, ◌++◌, take, arith}
use Rattle.sample_unpack.specs.Bits.{bits_of, bits_of_bytes}
use Rattle.sample_unpack.proofs.Packed.{last_word, last_written, nothing_waits}
use Rattle.sample_unpack.proofs.put.put_last.Goals as goal

pub overflow_cast-waiting : goal.overflow_cast-waiting
overflow_cast-waiting c =
    let last = last_word c.args.held c.args.waiting c.requires.held c.requires.fits in
    rw last.value (omega (arith, last.fits))

pub returns-then-held-gt0 : goal.returns-then-held-gt0
returns-then-held-gt0 c =
    let last = last_word c.args.held c.args.waiting c.requires.held c.requires.fits in
    last_written c.args.into.now c.put_word.new.into c.args.words c.args.held c.args.waiting c.requires.held c.if-held-gt0.true c.requires.fits c.requires.whole_words c.put_word.auto.into
    (c.put_word.ensures ∙ ap (λ n. bits_of_bytes (take (4 * c.args.words) c.args.into.now) ++ bits_of 32 n) last.value)

pub returns-else-held-gt0 : goal.returns-else-held-gt0
returns-else-held-gt0 c = nothing_waits c.args.into.now c.args.words c.args.held c.args.waiting (omega arith) c.requires.whole_words
