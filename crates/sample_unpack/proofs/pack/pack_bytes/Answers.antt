use Rattle.std.proofs.Common.{◌≡◌, ◌+◌, ◌-◌, ◌*◌, ◌++◌, ◌∙◌, List, ℕ, sym, ap, ap₂, length, take, replicate, arith}
use Rattle.std.proofs.lemmas.List.{take_all}
use Rattle.sample_unpack.specs.Bits.{bits_of_bytes}
use Rattle.sample_unpack.specs.Samples.{bits_of_samples}
use Rattle.sample_unpack.proofs.Bits.{bits_of_bytes-nil, bits_of-zero}
use Rattle.sample_unpack.proofs.pack.pack_bytes.Goals as goal

pub loop-index-init : goal.loop-index-init
loop-index-init c = bits_of_bytes-nil

-- half a word is left, and it is zero
pub returns-then-samples-eq1 : goal.returns-then-samples-eq1
returns-then-samples-eq1 c =
    let samples = c.args.samples.now in
    let into = c.put_half-then-samples-eq1.new.into in
    let number = length samples in
    let end : c.loop-index.index ≡ number = omega arith in
    let unused : 16 ≡ 8 * length c.args.into.now - 16 * number = omega arith in
    ap bits_of_bytes (sym (take_all (2 * number + 2) into (omega arith)))
    ∙ c.put_half-then-samples-eq1.ensures
    ∙ ap₂ (λ (x y : List ℕ). x ++ y)
    (ap (λ n. bits_of_bytes (take (2 * n) c.loop-index.into)) (sym end)
    ∙ c.loop-index.invariant
    ∙ ap (bits_of_samples 8) (take_all c.loop-index.index samples (omega arith)))
    (bits_of-zero 16 ∙ ap (λ n. replicate n 0) unused)
