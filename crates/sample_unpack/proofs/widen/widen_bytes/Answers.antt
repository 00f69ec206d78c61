use Rattle.std.proofs.Common.{◌≡◌, ◌+◌, ◌*◌, ◌/◌, ◌≤◌, ◌++◌, ◌∙◌, sym, ap, length, take, append_assoc, refl, arith}
use Rattle.std.proofs.lemmas.List.{take_all}
use Rattle.sample_unpack.specs.Bits.{bits_of, bits_of_bytes}
use Rattle.sample_unpack.proofs.Bits.{bits_of_bytes-nil}
use Rattle.sample_unpack.proofs.Widening.{wide, wide_bytes, wide_joined, wide_from}
use Rattle.sample_unpack.proofs.widen.widen_bytes.Goals as goal

pub loop-index-init : goal.loop-index-init
loop-index-init c = bits_of_bytes-nil

pub loop-index-preserved : goal.loop-index-preserved
loop-index-preserved c =
    let payload = c.args.payload.now in
    let bits = bits_of_bytes payload in
    let start = 2 * 8 * c.args.first in
    let now = c.loop-index in
    let at = 2 * (c.args.first + now.index) in
    let next : 4 * (now.index + 1) ≡ 4 * now.index + 2 + 2 = omega arith in
    let here : 8 * at ≡ start + 2 * 8 * now.index = omega arith in
    let high = c.widened_byte.result in
    let low = c.widened_byte-in-loop-index.result in
    ap (λ n. bits_of_bytes (take n c.put_half-in-loop-index.new.into)) next
    ∙ c.put_half-in-loop-index.ensures
    ∙ ap (λ xs. xs ++ bits_of 16 low) (c.put_half.ensures ∙ ap (λ xs. xs ++ bits_of 16 high) now.invariant)
    ∙ append_assoc (wide 8 bits start now.index) (bits_of 16 high) (bits_of 16 low)
    ∙ ap (λ xs. wide 8 bits start now.index ++ xs) (wide_bytes payload at high low (omega arith) c.widened_byte.ensures c.widened_byte-in-loop-index.ensures)
    ∙ wide_joined 8 bits start (8 * at) now.index 1 (λ _. here)

pub returns : goal.returns
returns c =
    let bits = bits_of_bytes c.args.payload.now in
    let now = c.loop-index in
    let count = length c.args.into.now / 4 in
    let start = 2 * 8 * c.args.first in
    let end : now.index ≡ count = omega arith in
    let whole : length now.into ≤ 4 * now.index = omega arith in
    sym (ap bits_of_bytes (take_all (4 * now.index) now.into whole))
    ∙ now.invariant
    ∙ ap (wide 8 bits start) end
    ∙ wide_from 8 bits c.args.first start count refl
