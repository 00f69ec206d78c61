use Rattle.std.proofs.Common.{◌-◌, ◌^◌, ◌≤◌, refl, arith}
use Rattle.std.proofs.lemmas.Nat.{one_shl}
use Rattle.std.proofs.Math.Nat.{pow-le-pow_right}
use Rattle.sample_unpack.proofs.Extended.{widens}
use Rattle.sample_unpack.proofs.wide.widened.Goals as goal

pub overflow_sub-result-2 : goal.overflow_sub-result-2
overflow_sub-result-2 c =
    let two : 2 ≤ 2 ^ (17 - c.args.width) = pow-le-pow_right {n = 2} (omega arith) {i = 1} {j = 17 - c.args.width} (omega arith) in
    omega (arith, one_shl (17 - c.args.width) 64 (omega arith))

pub overflow_mul-result : goal.overflow_mul-result
overflow_mul-result c =
    let w = widens c.args.width c.args.items c.apart-apart.result _ _ c.requires.some c.requires.most c.requires.fits refl refl c.apart-apart.ensures in
    omega (arith, w.fits)

pub overflow_add-result : goal.overflow_add-result
overflow_add-result c =
    let w = widens c.args.width c.args.items c.apart-apart.result _ _ c.requires.some c.requires.most c.requires.fits refl refl c.apart-apart.ensures in
    omega (arith, w.fits)

pub returns : goal.returns
returns c =
    let w = widens c.args.width c.args.items c.apart-apart.result _ _ c.requires.some c.requires.most c.requires.fits refl refl c.apart-apart.ensures in
    w.spelled
