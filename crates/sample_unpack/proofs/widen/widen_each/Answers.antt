use Rattle.std.proofs.Common.{◌≡◌, ◌+◌, ◌*◌, ◌/◌, ◌≤◌, ◌++◌, ◌∙◌, List, ℕ, sym, ap, ap₂, length, take, arith}
use Rattle.std.proofs.lemmas.List.{take_all}
use Rattle.sample_unpack.specs.Bits.{bits_of_bytes}
use Rattle.sample_unpack.proofs.Bits.{bits_of_bytes-nil}
use Rattle.sample_unpack.proofs.Widening.{wide, wide_one, wide_joined}
use Rattle.sample_unpack.proofs.widen.widen_each.Goals as goal

pub loop-index-init : goal.loop-index-init
loop-index-init c = record { place = omega arith; in_byte = omega arith; done = bits_of_bytes-nil }

pub loop-index-preserved : goal.loop-index-preserved
loop-index-preserved c =
    let bits = bits_of_bytes c.args.payload.now in
    let start = 8 * c.args.at + c.args.offset in
    let w = c.args.width in
    let now = c.loop-index in
    let next : 4 * (now.index + 1) ≡ 4 * now.index + 4 = omega arith in
    record {
      place = omega arith;
      in_byte = omega arith;
      done =
          ap (λ n. bits_of_bytes (take n c.put_word.new.into)) next
          ∙ c.put_word.ensures
          ∙ ap₂ (λ (xs ys : List ℕ). xs ++ ys) now.invariant.done
          (wide_one w bits (8 * now.at + now.offset) c.items_of.result c.sample_at.result c.sample_at.ensures c.items_of.ensures.items)
          ∙ wide_joined w bits start (8 * now.at + now.offset) now.index 1 (λ _. now.invariant.place);
    }

pub returns : goal.returns
returns c =
    let now = c.loop-index in
    let count = length c.args.into.now / 4 in
    let end : now.index ≡ count = omega arith in
    let whole : length now.into ≤ 4 * now.index = omega arith in
    sym (ap bits_of_bytes (take_all (4 * now.index) now.into whole))
    ∙ now.invariant.done
    ∙ ap (wide c.args.width (bits_of_bytes c.args.payload.now) (8 * c.args.at + c.args.offset)) end
