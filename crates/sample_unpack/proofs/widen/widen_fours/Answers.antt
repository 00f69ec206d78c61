use Rattle.std.proofs.Common.{◌≡◌, ◌+◌, ◌-◌, ◌*◌, ◌/◌, ◌<◌, ◌++◌, ◌∙◌, List, ℕ, sym, ap, ap₂, length, take, drop, arith}
use Rattle.sample_unpack.specs.Bits.{bits_of_bytes}
use Rattle.sample_unpack.proofs.Bits.{bits_of_bytes-nil}
use Rattle.sample_unpack.proofs.Samples.{length_rest}
use Rattle.sample_unpack.proofs.Widening.{wide, wide_joined, wide_rest, rest_fits}
use Rattle.sample_unpack.proofs.widen.widen_fours.Goals as goal

pub loop-index-init : goal.loop-index-init
loop-index-init c = bits_of_bytes-nil

pub widen_each-requires-clause-within : goal.widen_each-requires-clause-within
widen_each-requires-clause-within c some =
    let now = c.loop-index in
    let fours = c.whole_fours-fours.result in
    let room = length c.args.into.now in
    let size : length now.into ≡ room = now.auto.into in
    let count : length (take (length now.into - 16 * fours) (drop (16 * fours) now.into)) ≡ room - 16 * fours = length_rest (16 * fours) now.into ∙ ap (λ n. n - 16 * fours) size in
    let left : 0 < room = omega arith in
    let fit = rest_fits c.args.width c.args.start room fours (length c.args.payload.now) c.requires.whole_samples c.whole_fours-fours.ensures.room (c.requires.within left) in
    rw count fit

pub loop-index-preserved : goal.loop-index-preserved
loop-index-preserved c =
    let bits = bits_of_bytes c.args.payload.now in
    let start = 8 * c.args.start in
    let w = c.args.width in
    let now = c.loop-index in
    let place = c.args.start + w * now.index in
    let next : 16 * (now.index + 1) ≡ 16 * now.index + 8 + 8 = omega arith in
    let half : 8 * place + 0 ≡ start + 2 * w * (4 * now.index) = omega arith in
    let back : 8 * place + 4 * w ≡ start + 2 * w * (4 * now.index + 2) = omega arith in
    let count : 4 * now.index + 2 + 2 ≡ 4 * (now.index + 1) = omega arith in
    ap (λ n. bits_of_bytes (take n c.put_double-in-loop-index.new.into)) next
    ∙ c.put_double-in-loop-index.ensures
    ∙ ap₂ (λ (xs ys : List ℕ). xs ++ ys)
    (c.put_double.ensures
    ∙ ap₂ (λ (xs ys : List ℕ). xs ++ ys) now.invariant c.two_at.ensures
    ∙ wide_joined w bits start (8 * place + 0) (4 * now.index) 2 (λ _. half))
    c.two_at-in-loop-index.ensures
    ∙ wide_joined w bits start (8 * place + 4 * w) (4 * now.index + 2) 2 (λ _. back)
    ∙ ap (wide w bits start) count

pub returns : goal.returns
returns c =
    let bits = bits_of_bytes c.args.payload.now in
    let w = c.args.width in
    let now = c.loop-index in
    let fours = c.whole_fours-fours.result in
    let room = length c.args.into.now in
    let start = 8 * c.args.start in
    let place = 8 * (c.args.start + w * fours) + 0 in
    let end : now.index ≡ fours = omega arith in
    let size : length now.into ≡ room = now.auto.into in
    let front : bits_of_bytes (take (16 * fours) now.into) ≡ wide w bits start (4 * fours) =
    ap (λ n. bits_of_bytes (take (16 * n) now.into)) (sym end) ∙ now.invariant ∙ ap (λ n. wide w bits start (4 * n)) end in
    let count : length (take (length now.into - 16 * fours) (drop (16 * fours) now.into)) / 4 ≡ (room - 16 * fours) / 4 =
    ap (λ n. n / 4) (length_rest (16 * fours) now.into ∙ ap (λ n. n - 16 * fours) size) in
    let back : bits_of_bytes c.widen_each.new.into ≡ wide w bits place ((room - 16 * fours) / 4) = c.widen_each.ensures ∙ ap (wide w bits place) count in
    let all : 4 * fours + (room - 16 * fours) / 4 ≡ room / 4 = omega (arith, c.whole_fours-fours.ensures.room) in
    let behind : place ≡ start + 2 * w * (4 * fours) = omega arith in
    wide_rest w bits start place (16 * fours) (4 * fours) ((room - 16 * fours) / 4) now.into c.widen_each.new.into (omega (arith, size, c.whole_fours-fours.ensures.room)) front back (λ _. behind)
    ∙ ap (wide w bits start) all
