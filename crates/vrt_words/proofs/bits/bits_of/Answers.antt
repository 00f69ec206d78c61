-- The mask of low ones takes the remainder.
use Rattle.std.proofs.Common.{◌/◌, ◌^◌, ◌∙◌, ap, subst, sym, ◌<◌, arith}
use Rattle.std.specs.Int.Bits.{bit_and}
use Rattle.std.proofs.lemmas.Nat.{and_mask, mod_below, pow_pos}
use Rattle.vrt_words.proofs.BitLemmas.{low_ones}
use Rattle.vrt_words.proofs.bits.bits_of.Goals as goal

pub returns-clause-field : goal.returns-clause-field
returns-clause-field c =
    ap (bit_and (c.args.word / 2 ^ c.args.low)) (low_ones c.args.width (omega arith)) ∙ and_mask (c.args.word / 2 ^ c.args.low) c.args.width

pub returns-clause-fits : goal.returns-clause-fits
returns-clause-fits c =
    subst (λ n. n < 2 ^ c.args.width) (sym (returns-clause-field c)) (mod_below (c.args.word / 2 ^ c.args.low) (2 ^ c.args.width) (pow_pos c.args.width))
