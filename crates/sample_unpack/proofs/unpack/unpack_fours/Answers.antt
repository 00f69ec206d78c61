use Rattle.std.proofs.Common.{◌≡◌, ℕ, List, ◌+◌, ◌-◌, ◌*◌, ◌++◌, ◌∙◌, ap, ap₂, length, drop, arith}
use Rattle.sample_unpack.specs.Bits.{bits_of_bytes}
use Rattle.sample_unpack.specs.Samples.{samples_from}
use Rattle.sample_unpack.specs.declared.sample.Sample.{Sample}
use Rattle.sample_unpack.proofs.Samples.{samples_joined, written_rest, length_rest}
use Rattle.sample_unpack.proofs.unpack.unpack_fours.Goals as goal

pub loop-into-preserved : goal.loop-into-preserved
loop-into-preserved c =
    let bits = bits_of_bytes c.args.payload.now in
    let width = c.args.width in
    let start = 8 * c.args.start in
    let now = c.loop-into in
    let size : length c.put_four.new.into ≡ length now.into = c.put_four.auto.into in
    record {
      within = omega (arith, size);
      place = omega arith;
      read =
          c.put_four.ensures
          ∙ ap₂ (λ (xs ys : List Sample). xs ++ ys) now.invariant.read c.four_at.ensures
          ∙ samples_joined width bits start (8 * now.at) now.done 4 (λ _. now.invariant.place);
    }

pub returns : goal.returns
returns c =
    let bits = bits_of_bytes c.args.payload.now in
    let width = c.args.width in
    let start = 8 * c.args.start in
    let now = c.loop-into in
    let rest = length now.into - now.done in
    let here : 8 * now.at + 0 ≡ 8 * now.at = omega arith in
    let all : now.done + rest ≡ length c.args.into.now = omega arith in
    written_rest now.done now.into c.unpack_each.new.into now.invariant.within
    ∙ ap₂ (λ (xs ys : List Sample). xs ++ ys) now.invariant.read
    (c.unpack_each.ensures ∙ ap₂ (λ (n k : ℕ). samples_from width (drop n bits) 0 k) here (length_rest now.done now.into))
    ∙ samples_joined width bits start (8 * now.at) now.done rest (λ _. now.invariant.place)
    ∙ ap (samples_from width (drop start bits) 0) all
