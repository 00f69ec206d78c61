use Rattle.std.proofs.Common.{◌≡◌, ◌∙◌, ◌++◌, ap, length, take, get_or, pos, rules}
use Rattle.sample_unpack.specs.declared.sample.Sample.{Sample}
use Rattle.sample_unpack.proofs.Samples.{written_four, four_items}
use Rattle.sample_unpack.proofs.unpack.put_four.Goals as goal

pub returns : goal.returns
returns c =
    let four = c.args.four in
    let none : Sample = record { i = pos 0; q = pos 0 } in
    let size : length four ≡ 4 = search rules in
    written_four c.args.into.now c.args.index (get_or four 0 none) (get_or four 1 none) (get_or four 2 none) (get_or four 3 none) c.requires
    ∙ ap (λ xs. take c.args.index c.args.into.now ++ xs) (four_items four none size)
