use Rattle.std.proofs.Common.{◌≡◌, ◌-◌, ◌*◌, ◌/◌, ◌%◌, ◌^◌, ◌+◌, ◌<◌, ℕ, ap, ap₂, ◌∙◌, bit_and, bit_or, subst, arith}
use Rattle.std.proofs.lemmas.Nat.{mod_below, pow_pos, shr_below}
use Rattle.sample_unpack.proofs.Spread.{masks, pairs, pairs_apart}
use Rattle.sample_unpack.proofs.wide.apart.Goals as goal

pub overflow_mul-mask : goal.overflow_mul-mask
overflow_mul-mask c =
    let m = masks c.args.width c.requires.most in
    omega arith

pub returns : goal.returns
returns c =
    let w = c.args.width in
    let x = c.args.items in
    let high = x / 2 ^ (2 * w) in
    let low = x % 2 ^ (2 * w) in
    let mask = 18446744073709551615 / 2 ^ (64 - w) * 4294967297 in
    let twice : 4 * w ≡ 2 * w + 2 * w = omega arith in
    let h : high < 2 ^ (2 * w) = shr_below x (2 * w) (2 * w) (subst (λ e. x < 2 ^ e) twice c.requires.fits) in
    let l : low < 2 ^ (2 * w) = mod_below x (2 ^ (2 * w)) (pow_pos (2 * w)) in
    let p = pairs w high low mask c.requires.most h l (masks w c.requires.most) in
    ap (λ n. bit_or (bit_and n (mask * 2 ^ w % 2 ^ 64) * 2 ^ (16 - w) % 2 ^ 64) (bit_and n mask)) (pairs_apart w x c.requires.most c.requires.fits)
    ∙ ap₂ (λ (m n : ℕ). bit_or m n) p.first p.second
    ∙ p.both
